-- The text of a configuration ("The files", the table), and writing it ("Numbers of refusal", writing).
-- Assumes nothing.
use Rattle.std.specs.Prelude.{ℕ, ◌+◌, ◌*◌, List, [], ◌∷◌, ◌++◌, length, eqb}
use Rattle.numbers.specs.Refusals.{not_sound}
use Rattle.numbers.specs.Tags.{runnable_tag, variable_tag, area_tag, operation_tag, timer_tag, edition_tag, runnable_length, field_head, variable_length, area_length, operation_length, timer_length, pair_length, edition_length, part_kinds}
use Rattle.laws.specs.Choice.{pick}
use Rattle.laws.specs.Loop.{sum_below}
use Rattle.config.specs.declared.Config.{Config}
use Rattle.wire.specs.Bytes.{end_bytes, bytes32, wrote_to, wrote_bytes, build}
use Rattle.wire.specs.declared.Wrote.{Wrote}
use Rattle.wire.specs.declared.Wrote.TheVariants.{Refused}
use Rattle.entries.specs.declared.Entry.{Entry}
use Rattle.entries.specs.Entries.{count_of, entry_of}
use Rattle.entries.specs.Faults.{config_sound}

-- component, flags, start interval, request capacity ("The files", tag 10)
abbrev pub runnable_bytes : Entry → List ℕ
runnable_bytes e = runnable_tag ∷ 0 ∷ runnable_length ∷ e.first ∷ e.second ∷ (bytes32 e.number ++ (e.third ∷ []))

-- component, mark of an initial, initial ("The files", tag 11)
abbrev pub variable_bytes : Entry → List ℕ
variable_bytes e = variable_tag ∷ 0 ∷ variable_length ∷ e.first ∷ e.second ∷ bytes32 e.number

-- component ("The files", tag 12)
abbrev pub area_bytes : Entry → List ℕ
area_bytes e = area_tag ∷ 0 ∷ area_length ∷ e.first ∷ []

-- component, kind, server, timeout ("The files", tag 16)
abbrev pub operation_bytes : Entry → List ℕ
operation_bytes e = operation_tag ∷ 0 ∷ operation_length ∷ e.first ∷ e.second ∷ e.third ∷ bytes32 e.number

-- runnable, period ("The files", tag 17)
abbrev pub timer_bytes : Entry → List ℕ
timer_bytes e = timer_tag ∷ 0 ∷ timer_length ∷ e.first ∷ bytes32 e.number

-- two bytes: elements, links, events and listed elements ("The files", tags 13, 14, 15, 18, 19; W-211)
abbrev pub pair_bytes : ℕ → Entry → List ℕ
pair_bytes tag e = tag ∷ 0 ∷ pair_length ∷ e.first ∷ e.second ∷ []

-- the field of a part: its tag, the length of its body, its body ("The files", the table)
unfoldable pub entry_bytes : ℕ → Entry → List ℕ
entry_bytes tag e =
    pick (eqb tag runnable_tag) (runnable_bytes e)
    (pick (eqb tag variable_tag) (variable_bytes e)
    (pick (eqb tag area_tag) (area_bytes e)
    (pick (eqb tag operation_tag) (operation_bytes e)
    (pick (eqb tag timer_tag) (timer_bytes e)
    (pair_bytes tag e)))))

-- how many bytes that field has, three before its body ("The files", the table)
unfoldable pub field_size : ℕ → ℕ
field_size tag =
    pick (eqb tag runnable_tag) (field_head + runnable_length)
    (pick (eqb tag variable_tag) (field_head + variable_length)
    (pick (eqb tag area_tag) (field_head + area_length)
    (pick (eqb tag operation_tag) (field_head + operation_length)
    (pick (eqb tag timer_tag) (field_head + timer_length)
    (field_head + pair_length)))))

-- the field of part i of a kind ("The files", the table)
unfoldable pub part_bytes : Config → ℕ → ℕ → List ℕ
part_bytes cfg tag i = entry_bytes tag (entry_of cfg tag i)

-- the fields of a kind, in the order of its numbers ("The parts, and how many")
unfoldable pub kind_bytes : Config → ℕ → List ℕ
kind_bytes cfg tag = build (part_bytes cfg tag) (count_of cfg tag)

-- how many bytes these have ("The files", the table)
unfoldable pub kind_size : Config → ℕ → ℕ
kind_size cfg tag = count_of cfg tag * field_size tag

-- the field of an edition ("The files", tag 01; W-208)
abbrev pub edition_bytes : ℕ → List ℕ
edition_bytes e = edition_tag ∷ 0 ∷ edition_length ∷ e ∷ []

-- the fields of the kind at place j among all, whose tags go up from 10 ("The files", the table)
unfoldable pub block_of : Config → ℕ → List ℕ
block_of cfg j = kind_bytes cfg (runnable_tag + j)

-- the fields of all of them, no tag below the one before ("Numbers of refusal", 22)
unfoldable pub parts_bytes : Config → List ℕ
parts_bytes cfg = build (block_of cfg) part_kinds

-- how many bytes these have ("The files", the table)
unfoldable pub parts_size : Config → ℕ
parts_size cfg = sum_below (λ (j : ℕ). kind_size cfg (runnable_tag + j)) part_kinds

-- the text of a configuration: edition, parts, end ("The files", the table)
unfoldable pub text_of : Config → List ℕ
text_of cfg = (edition_bytes cfg.edition ++ parts_bytes cfg) ++ end_bytes

-- the answer to writing a configuration: 1, then 27 ("Numbers of refusal", writing)
abbrev pub config_to : List ℕ → Config → Wrote
config_to b cfg = pick (config_sound cfg) (wrote_to b 0 (length (text_of cfg))) (Refused not_sound)

-- the buffer afterwards: bytes past the text stay, and all of them at a refusal ("Numbers of refusal", writing)
abbrev pub config_written : List ℕ → Config → List ℕ
config_written b cfg = pick (config_sound cfg) (wrote_bytes b 0 (text_of cfg)) b
