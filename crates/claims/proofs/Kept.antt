-- The whole of demand 3 from the line: the steps counted are a run (`accepted-is-run`, `unfinished-is-run`, `refused-is-run`), and a run keeps it (`demand3`).
-- Assumes nothing.
use mathlib.Core.Path.{sym}
use lib.ListN.{take}
use Rattle.reading.specs.Reading.{config_of}
use Rattle.recording.specs.Whole.{steps_in}
use Rattle.recording.proofs.Texts.{text-again}
use Rattle.history.proofs.Together.{demand3}
use Rattle.claims.specs.Claims.{AcceptedKeeps, UnfinishedKeeps, RefusedKeeps}
use Rattle.claims.proofs.FromBytes.{sound-config, accepted-is-run, unfinished-is-run, refused-is-run}

pub accepted-keeps : AcceptedKeeps
accepted-keeps c t n h =
    let w = (accepted-is-run c t n).0 h in
    let s = sound-config c t w.0 in
    record { config = s; text = λ b. sym (text-again t b w.1); count = w.2; demand = demand3 (config_of c).config (steps_in t) w.4 s w.5 }

pub unfinished-keeps : UnfinishedKeeps
unfinished-keeps c t n h =
    let w = (unfinished-is-run c t n).0 h in
    demand3 (config_of c).config (take n (steps_in t)) w.3 (sound-config c t w.0) w.4

pub refused-keeps : RefusedKeeps
refused-keeps c t p k h =
    let w = (refused-is-run c t p k).0 h in
    (w.1, w.2, w.4, demand3 (config_of c).config (take w.1 (steps_in t)) w.2 (sound-config c t w.0) w.3.run)
