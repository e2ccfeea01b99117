-- Reading a configuration ("The files", the table; "Numbers of refusal", reading a configuration): field by field, and within a field the tests 21, 22, then 23 to 26.
-- A text is the list of its bytes that are still ahead.
-- Assumes nothing.
use Rattle.std.specs.Prelude.{ℕ, zero, suc, ◌+◌, ◌-◌, Bool, not, List, ltb, leb, eqb, length, get_or, drop}
use Rattle.numbers.specs.Refusals.{bad_order, bad_frame, out_of_range}
use Rattle.numbers.specs.Tags.{edition_tag, runnable_tag, variable_tag, area_tag, required_tag, provided_tag, link_tag, operation_tag, timer_tag, data_event_tag, return_event_tag, incoming_tag, outgoing_tag, end_tag, edition_length, runnable_length, variable_length, area_length, required_length, provided_length, link_length, operation_length, timer_length, data_event_length, return_event_length, listed_length, end_length, no_length}
use Rattle.laws.specs.Choice.{pick, both}
use Rattle.config.specs.declared.Config.{Config}
use Rattle.config.specs.Editions.{is_edition, has_field}
use Rattle.config.specs.Tables.{no_config}
use Rattle.wire.specs.Bytes.{length_of, number_of}
use Rattle.entries.specs.declared.Entry.{Entry}
use Rattle.entries.specs.Entries.{count_of, placed}
use Rattle.entries.specs.Faults.{entry_fault}
use Rattle.reading.specs.declared.Outcome.{Outcome}
use Rattle.reading.specs.declared.Outcome.TheVariants.{Whole, Refused}
use Rattle.reading.specs.declared.Reading.{Reading}
use Rattle.reading.specs.declared.Head.{Head}
use Rattle.reading.specs.declared.Head.TheVariants.{Field, End, Bad}

-- the number of refusal that an outcome stands for; 0 for a whole configuration ("Numbers of refusal")
abbrev pub outcome_refusal : Outcome → ℕ
outcome_refusal Whole = 0
outcome_refusal (Refused place number) = number

-- the place of the field that was refused, from 1; 0 for a whole configuration ("Numbers of refusal")
abbrev pub outcome_place : Outcome → ℕ
outcome_place Whole = 0
outcome_place (Refused place number) = place

-- how long the body of a field is, by its tag; for an unknown tag more than two bytes can say, so that no length fits it ("The files", the table)
unfoldable pub size_of : ℕ → ℕ
size_of tag =
    pick (eqb tag edition_tag) edition_length
    (pick (eqb tag runnable_tag) runnable_length
    (pick (eqb tag variable_tag) variable_length
    (pick (eqb tag area_tag) area_length
    (pick (eqb tag required_tag) required_length
    (pick (eqb tag provided_tag) provided_length
    (pick (eqb tag link_tag) link_length
    (pick (eqb tag operation_tag) operation_length
    (pick (eqb tag timer_tag) timer_length
    (pick (eqb tag data_event_tag) data_event_length
    (pick (eqb tag return_event_tag) return_event_length
    (pick (eqb tag incoming_tag) listed_length
    (pick (eqb tag outgoing_tag) listed_length
    (pick (eqb tag end_tag) end_length
    no_length)))))))))))))

-- the same in an edition: a tag whose fields it has not is unknown there (W-211)
unfoldable pub size_in : ℕ → ℕ → ℕ
size_in e tag = pick (has_field e tag) (size_of tag) no_length

-- the number of the four bytes from place i on ("The files")
abbrev pub number_at : List ℕ → ℕ → ℕ
number_at t i = number_of (get_or t i 0) (get_or t (i + 1) 0) (get_or t (i + 2) 0) (get_or t (i + 3) 0)

-- component, flags, start interval, request capacity ("The files", tag 10)
abbrev pub runnable_read : List ℕ → Entry
runnable_read t = record { first = get_or t 3 0; second = get_or t 4 0; third = get_or t 9 0; number = number_at t 5 }

-- component, mark of an initial, initial ("The files", tag 11)
abbrev pub variable_read : List ℕ → Entry
variable_read t = record { first = get_or t 3 0; second = get_or t 4 0; third = 0; number = number_at t 5 }

-- component ("The files", tag 12)
abbrev pub area_read : List ℕ → Entry
area_read t = record { first = get_or t 3 0; second = 0; third = 0; number = 0 }

-- component, kind, server, timeout ("The files", tag 16)
abbrev pub operation_read : List ℕ → Entry
operation_read t = record { first = get_or t 3 0; second = get_or t 4 0; third = get_or t 5 0; number = number_at t 6 }

-- runnable, period ("The files", tag 17)
abbrev pub timer_read : List ℕ → Entry
timer_read t = record { first = get_or t 3 0; second = 0; third = 0; number = number_at t 4 }

-- two bytes: elements, links, events and listed elements ("The files", tags 13, 14, 15, 18, 19; W-211)
abbrev pub pair_read : List ℕ → Entry
pair_read t = record { first = get_or t 3 0; second = get_or t 4 0; third = 0; number = 0 }

-- the entry that the body of a field says, three bytes into the text ("The files", the table)
unfoldable pub entry_read : ℕ → List ℕ → Entry
entry_read tag t =
    pick (eqb tag runnable_tag) (runnable_read t)
    (pick (eqb tag variable_tag) (variable_read t)
    (pick (eqb tag area_tag) (area_read t)
    (pick (eqb tag operation_tag) (operation_read t)
    (pick (eqb tag timer_tag) (timer_read t)
    (pair_read t)))))

-- the edition stands first and nowhere else, and no tag is lower than the one before it; 0 stands for no field before ("Numbers of refusal", 22)
unfoldable pub in_order : ℕ → ℕ → Bool
in_order last tag = pick (eqb last 0) (eqb tag edition_tag) (both (leb last tag) (not (eqb tag edition_tag)))

-- a field by its tag, the length that it says, its tag's own length, how many bytes are behind these, and whether it is in order: 21, then 22 ("Numbers of refusal")
abbrev pub head_with : ℕ → ℕ → ℕ → ℕ → Bool → Head
head_with tag said size left ordered =
    pick (eqb said size)
    (pick (leb size left)
    (pick ordered
    (pick (eqb tag end_tag) End (Field tag size))
    (Bad bad_order))
    (Bad bad_frame))
    (Bad bad_frame)

-- the field at the front of a text, behind a field with the tag last, in an edition; before that is read, in the first ("Numbers of refusal", 21 and 22; W-211)
unfoldable pub head_of : ℕ → List ℕ → ℕ → Head
head_of e t last =
    pick (ltb (length t) 3) (Bad bad_frame)
    (head_with (get_or t 0 0) (length_of (get_or t 1 0) (get_or t 2 0)) (size_in e (get_or t 0 0)) (length t - 3) (in_order last (get_or t 0 0)))

-- the first fault of a field's body: an edition that there is not, or a fault of the part's entry; 0 for none ("Numbers of refusal", 23 to 26; W-208)
unfoldable pub body_fault : Config → ℕ → List ℕ → ℕ
body_fault cfg tag t =
    pick (eqb tag edition_tag) (pick (is_edition (get_or t 3 0)) 0 out_of_range) (entry_fault cfg tag (count_of cfg tag) (entry_read tag t))

-- a whole configuration ("Numbers of refusal", reading a configuration)
abbrev pub whole_of : Config → Reading
whole_of cfg = record { outcome = Whole; config = cfg }

-- a refused reading: the place and the number, beside a blank configuration ("Numbers of refusal", a refused read)
unfoldable pub refused_at : ℕ → ℕ → Reading
refused_at place number = record { outcome = Refused place number; config = no_config }

-- what the field at the front comes to; next goes on behind a field without fault, and bytes behind the end stand one place further ("Numbers of refusal", reading a configuration)
abbrev pub on_head : Head → List ℕ → Config → ℕ → (ℕ → ℕ → Reading) → Reading
on_head (Bad number) t cfg place next = refused_at place number
on_head End t cfg place next = pick (eqb (length t) 3) (whole_of cfg) (refused_at (place + 1) bad_frame)
on_head (Field tag size) t cfg place next = pick (eqb (body_fault cfg tag t) 0) (next tag size) (refused_at place (body_fault cfg tag t))

-- reading goes on: t is ahead, cfg holds the parts before it, last is the tag before it, place the place of its first field; the first number bounds the fields ("Numbers of refusal", reading a configuration)
unfoldable pub read_from : ℕ → List ℕ → Config → ℕ → ℕ → Reading
read_from zero t cfg last place = refused_at place bad_frame
read_from (suc k) t cfg last place =
    on_head (head_of cfg.edition t last) t cfg place (λ (tag size : ℕ). read_from k (drop (3 + size) t) (placed cfg tag (entry_read tag t)) tag (place + 1))

-- the reading of a whole text; a field takes three bytes or more, so there are never more fields than bytes ("Numbers of refusal", reading a configuration)
unfoldable pub config_of : List ℕ → Reading
config_of s = read_from (suc (length s)) s no_config 0 1
