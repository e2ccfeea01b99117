-- A queue that a send names, as facts (W-201).
-- Assumes nothing.
use Rattle.std.specs.Prelude.{ℕ, ◌≤◌, ◌<◌, true, ◌≡◌}
use Rattle.faces.specs.Types.{Config, Elements}
use Rattle.config.specs.Tables.{required_conf_in}
use Rattle.entries.specs.Faults.{is_queued}
use Rattle.state.specs.Tables.{element_in}
use Rattle.effects.specs.Steps.{linked}

-- q is a required element, p is linked to it, and it has a queue, which is full (W-201)
pub record FullQueue (cfg : Config) (t : Elements) (p q : ℕ) : Type 0 where
  pub there : q < cfg.required.n
  pub link : linked cfg p q ≡ true
  pub queue : is_queued cfg q ≡ true
  pub spent : (required_conf_in cfg.required q).capacity ≤ (element_in t q).queue.queued
