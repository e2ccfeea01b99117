-- Queues of values, as the sends and receives of a recording tell them, and what is promised of them and of who is held on one. No state of the machine is used here; of what sends claim Ok and Full are read, and Limit, which older units record for Full, is not.
-- Assumes nothing.
use Rattle.std.specs.Prelude.{ℕ, ◌≤◌, ◌<◌, true, List, [], ◌∷◌, ◌++◌, ◌↔◌, ◌⊎◌, ◌≡◌, ltb, eqb, length, get_or, drop}
use Rattle.numbers.specs.Codes.{receive_code, send_code, give_up_code}
use Rattle.laws.specs.Choice.{pick, both}
use Rattle.laws.specs.Mask.{is_set}
use Rattle.faces.specs.Types.{Value, Step, Config}
use Rattle.values.specs.Values.{ok_v, no_data_v, full_v, timeout_v}
use Rattle.config.specs.Tables.{required_conf_in}
use Rattle.rules.specs.Rows.{a_slot, row_of}
use Rattle.effects.specs.Steps.{linked}
use Rattle.history.specs.History.{traced, time_since, held_in, HeldFor}

-- what waits at the required element q after the step s, if w did before: a send that is linked there adds its value as the newest while there is room, a receive there takes the oldest ("The eighteen steps", 9 and 10)
unfoldable pub values_after : Config → ℕ → List Value → Step → List Value
values_after cfg q w s =
    pick (both (eqb s.code send_code) (linked cfg s.what q)) (pick (ltb (length w) (required_conf_in cfg.required q).capacity) (w ++ (s.argument ∷ [])) w)
    (pick (both (eqb s.code receive_code) (eqb s.what q)) (drop 1 w)
    w)

-- the values that wait at the required element q after the steps of a recording, the oldest in front ("The eighteen steps", 9 and 10)
unfoldable pub values_in : Config → ℕ → List Step → List Value
values_in cfg q rs = traced (λ n. values_after cfg q) [] rs

-- no queue of values passes its capacity ("How tight the contracts are", demand 3)
abbrev pub ValuesWaitingFit : Config → List Step → Type 0
ValuesWaitingFit cfg rs = (q : ℕ) → length (values_in cfg q rs) ≤ (required_conf_in cfg.required q).capacity

-- and a send that claims Ok found room in each linked one ("The eighteen steps", 10)
abbrev pub OkHadRoom : Config → List Step → Step → List Step → Type 0
OkHadRoom cfg before s after =
    s.code ≡ send_code → s.claim ≡ ok_v → (q : ℕ) → linked cfg s.what q ≡ true → length (values_in cfg q before) < (required_conf_in cfg.required q).capacity

-- one that claims Full names exactly the linked ones that had none, bit q for the required element q (W-201)
abbrev pub FullNamesSpent : Config → List Step → Step → List Step → Type 0
FullNamesSpent cfg before s after =
    (m : ℕ) → s.code ≡ send_code → s.claim ≡ full_v m
    → (q : ℕ) → (is_set m q ≡ true) ↔ ((linked cfg s.what q ≡ true) × ((required_conf_in cfg.required q).capacity ≤ length (values_in cfg q before)))

-- a receive is answered with the oldest value that waits there, and NoData if none does ("The eighteen steps", 9)
abbrev pub ReceivesOldest : Config → List Step → Step → List Step → Type 0
ReceivesOldest cfg before s after = s.code ≡ receive_code → s.claim ≡ get_or (values_in cfg s.what before) 0 no_data_v

-- a held instance goes on by the step s, when q held it for t: a receive there while a value waits; or it gives up, with Timeout, when exactly its time has passed (W-210)
abbrev pub GoesOnBy : Config → List Step → Step → ℕ → ℕ → Type 0
GoesOnBy cfg before s q t =
    ((s.code ≡ receive_code) × (s.what ≡ q) × (0 < length (values_in cfg q before)))
    ⊎ ((s.code ≡ give_up_code) × (s.claim ≡ timeout_v) × (time_since (held_in s.who before) before ≡ t))

-- who is held takes no step but the one by which it goes on (W-210)
abbrev pub HeldWaits : Config → List Step → Step → List Step → Type 0
HeldWaits cfg before s after =
    (row_of s.code).who ≡ a_slot → 0 < held_in s.who before → (q t : ℕ) × HeldFor before (held_in s.who before) s.who q t × GoesOnBy cfg before s q t
