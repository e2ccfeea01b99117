-- When a configuration is sound: refusals 21 and 23 to 26, entry by entry, and blank places ("Numbers of refusal", reading a configuration; "A sound state", first sentence).
-- A part names only parts of kinds that come before its own in the file, so the faults of an entry are the same while reading and afterwards.
-- Assumes nothing.
use Rattle.std.specs.Prelude.{ℕ, ◌+◌, ◌-◌, Bool, true, not, ltb, leb, eqb}
use Rattle.numbers.specs.Refusals.{bad_frame, bad_pair, names_nothing, out_of_range, too_many}
use Rattle.numbers.specs.Tags.{part_kinds, runnable_tag, variable_tag, area_tag, required_tag, provided_tag, operation_tag, timer_tag, link_tag, data_event_tag, return_event_tag, incoming_tag, outgoing_tag}
use Rattle.laws.specs.Choice.{pick, both, either, alike}
use Rattle.laws.specs.Loop.{all_below}
use Rattle.config.specs.declared.Config.{Config}
use Rattle.config.specs.Tables.{max_capacity, max_listed, runnable_conf_in, required_conf_in, provided_conf_in}
use Rattle.config.specs.Lists.{listed_below}
use Rattle.config.specs.Editions.{is_edition, has_field}
use Rattle.entries.specs.declared.Entry.{Entry}
use Rattle.entries.specs.Entries.{max_of, count_of, places_of, entry_of}

-- the highest number of a component ("The files", below the table)
abbrev pub max_component : ℕ
max_component = 15

-- an hour in milliseconds: the top of intervals, timeouts and periods ("The files", below the table)
abbrev pub max_time : ℕ
max_time = 3600000

-- the flags of a runnable, all three at once (W-212)
abbrev pub max_flags : ℕ
max_flags = 7

-- a time of at least 1 and at most max_time, an hour ("The files", below the table)
abbrev pub is_time : ℕ → Bool
is_time n = both (ltb 0 n) (leb n max_time)

-- an entry at place i of its kind is not one too many: there may be that many of the kind, and of listed elements that many of one runnable ("Numbers of refusal", 23; W-211)
unfoldable pub has_room : Config → ℕ → ℕ → Entry → Bool
has_room cfg tag i e =
    pick (eqb tag incoming_tag) (ltb (listed_below cfg.incoming e.first i) max_listed)
    (pick (eqb tag outgoing_tag) (ltb (listed_below cfg.outgoing e.first i) max_listed)
    (ltb i (max_of tag)))

-- the numbers of an entry are in range; numbers of parts are not looked at here ("Numbers of refusal", 24)
unfoldable pub in_range : ℕ → Entry → Bool
in_range tag e =
    pick (eqb tag runnable_tag) (both (leb e.first max_component) (both (leb e.second max_flags) (both (leb e.number max_time) (leb e.third max_capacity))))
    (pick (eqb tag variable_tag) (both (leb e.first max_component) (leb e.second 1))
    (pick (eqb tag area_tag) (leb e.first max_component)
    (pick (eqb tag required_tag) (both (leb e.first max_component) (leb e.second max_capacity))
    (pick (eqb tag provided_tag) (both (leb e.first max_component) (leb e.second 1))
    (pick (eqb tag operation_tag) (both (leb e.first max_component) (both (leb e.second 1) (is_time e.number)))
    (pick (eqb tag timer_tag) (is_time e.number)
    true))))))

-- every part that an entry names is there ("Numbers of refusal", 25)
unfoldable pub names_there : Config → ℕ → Entry → Bool
names_there cfg tag e =
    pick (eqb tag link_tag) (both (ltb e.first cfg.provided.n) (ltb e.second cfg.required.n))
    (pick (eqb tag operation_tag) (ltb e.third cfg.runnables.n)
    (pick (eqb tag timer_tag) (ltb e.first cfg.runnables.n)
    (pick (eqb tag data_event_tag) (both (ltb e.first cfg.runnables.n) (ltb e.second cfg.required.n))
    (pick (eqb tag return_event_tag) (both (ltb e.first cfg.runnables.n) (ltb e.second cfg.operations.n))
    (pick (eqb tag incoming_tag) (both (ltb e.first cfg.runnables.n) (ltb e.second cfg.required.n))
    (pick (eqb tag outgoing_tag) (both (ltb e.first cfg.runnables.n) (ltb e.second cfg.provided.n))
    true))))))

-- a runnable with a request capacity is a server, any other plain ("The files", below the table)
unfoldable pub is_server : Config → ℕ → Bool
is_server cfg r = ltb 0 (runnable_conf_in cfg.runnables r).capacity

-- a required element with a capacity is queued ("The files", below the table)
unfoldable pub is_queued : Config → ℕ → Bool
is_queued cfg q = ltb 0 (required_conf_in cfg.required q).capacity

-- the pair of an entry lies above another's, by the first number and then by the second ("Numbers of refusal", 26)
unfoldable pub rises : Entry → Entry → Bool
rises d e = either (ltb d.first e.first) (both (eqb d.first e.first) (ltb d.second e.second))

-- the pair at place i lies above the one before it ("Numbers of refusal", 26)
unfoldable pub rises_at : Config → ℕ → ℕ → Entry → Bool
rises_at cfg tag i e = either (eqb i 0) (rises (entry_of cfg tag (i - 1)) e)

-- a runnable may list an element: it is plain, and the element, of which the entry is given, is of its component and unqueued (W-211)
unfoldable pub lists_well : Config → ℕ → Entry → Bool
lists_well cfg r x = both (not (is_server cfg r)) (both (eqb x.first (runnable_conf_in cfg.runnables r).component) (eqb x.second 0))

-- no bad pairing: no init flag and no counting on a server, no initial without its mark, links join like kinds, operations stand on servers, timers and events on plain runnables, elements are listed well, and the pairs of links, events and lists rise ("Numbers of refusal", 26; W-212; W-211)
unfoldable pub pairs_well : Config → ℕ → ℕ → Entry → Bool
pairs_well cfg tag i e =
    pick (eqb tag runnable_tag) (either (leb e.second 1) (eqb e.third 0))
    (pick (eqb tag variable_tag) (either (eqb e.second 1) (eqb e.number 0))
    (pick (eqb tag link_tag) (both (alike (provided_conf_in cfg.provided e.first).queued (is_queued cfg e.second)) (rises_at cfg tag i e))
    (pick (eqb tag operation_tag) (is_server cfg e.third)
    (pick (eqb tag timer_tag) (not (is_server cfg e.first))
    (pick (eqb tag data_event_tag) (both (not (is_server cfg e.first)) (rises_at cfg tag i e))
    (pick (eqb tag return_event_tag) (both (not (is_server cfg e.first)) (rises_at cfg tag i e))
    (pick (eqb tag incoming_tag) (both (lists_well cfg e.first (entry_of cfg required_tag e.second)) (rises_at cfg tag i e))
    (pick (eqb tag outgoing_tag) (both (lists_well cfg e.first (entry_of cfg provided_tag e.second)) (rises_at cfg tag i e))
    true))))))))

-- the first fault of an entry at place i of its kind: a field that the edition has not, one too many, a number out of range, a part that isn't there, a bad pairing; 0 for none ("Numbers of refusal", 21 and 23 to 26; W-211)
unfoldable pub entry_fault : Config → ℕ → ℕ → Entry → ℕ
entry_fault cfg tag i e =
    pick (has_field cfg.edition tag)
    (pick (has_room cfg tag i e)
    (pick (in_range tag e)
    (pick (names_there cfg tag e)
    (pick (pairs_well cfg tag i e)
    0
    bad_pair)
    names_nothing)
    out_of_range)
    too_many)
    bad_frame

-- an entry of zeros ("A sound state", unused places)
unfoldable pub is_no_entry : Entry → Bool
is_no_entry e = both (eqb e.first 0) (both (eqb e.second 0) (both (eqb e.third 0) (eqb e.number 0)))

-- one place of a kind: without fault where it is in use, else blank ("A sound state", first sentence)
unfoldable pub place_sound : Config → ℕ → ℕ → Bool
place_sound cfg tag i =
    pick (ltb i (count_of cfg tag)) (eqb (entry_fault cfg tag i (entry_of cfg tag i)) 0) (is_no_entry (entry_of cfg tag i))

-- all of a kind: its table has its length, no more are in use than there may be, and each place is sound ("A sound state", first sentence)
unfoldable pub kind_sound : Config → ℕ → Bool
kind_sound cfg tag =
    both (eqb (places_of cfg tag) (max_of tag)) (both (leb (count_of cfg tag) (max_of tag)) (all_below (place_sound cfg tag) (max_of tag)))

-- all kinds are sound, with the tags from 10 on ("A sound state", first sentence)
unfoldable pub parts_sound : Config → Bool
parts_sound cfg = all_below (λ (j : ℕ). kind_sound cfg (runnable_tag + j)) part_kinds

-- a sound configuration: its edition is one that there is, and its parts are sound ("A sound state", first sentence; W-208)
unfoldable pub config_sound : Config → Bool
config_sound cfg = both (is_edition cfg.edition) (parts_sound cfg)
