-- `reading::read_config` meets its contract. The loop knows what was read and what is ahead (`Ahead`); its measure is the bytes that are left.
-- Assumes nothing.
use Rattle.reading.proofs.Ahead.{ahead-starts, turn-bad, turn_end, turn-behind, turn-fault, turn-room, turn_on}
use Rattle.wire.proofs.Laws.{rest-is}
use Rattle.reading.specs.Reading.{refused_at}
use Prim.Native.Nat.{ℕ, ◌+◌}
use mathlib.Core.Path.{sym, ap, ◌∙◌}
use native.Mathlib.Omega.{arith}
use lib.ListN.{length, length-drop}
use Rattle.reading.proofs.read_config.Goals as goal

pub loop-number-init : goal.loop-number-init
loop-number-init c = rw c.none-cfg.ensures (ahead-starts c.args.s.now)

pub returns-in-Bad : goal.returns-in-Bad
returns-in-Bad c =
    let l = c.loop-number in
    c.refused_at.ensures ∙ turn-bad c.args.s.now l.t.now l.cfg l.last l.place l.invariant (sym c.in-Bad.ensures)

pub returns-then-t-eq3 : goal.returns-then-t-eq3
returns-then-t-eq3 c =
    let l = c.loop-number in
    turn_end c.args.s.now l.t.now l.cfg l.last l.place l.invariant (sym c.in-End.ensures) c.if-t-eq3.true

pub returns-in-End : goal.returns-in-End
returns-in-End c =
    let l = c.loop-number in
    c.refused_at-in-End.ensures ∙ turn-behind c.args.s.now l.t.now l.cfg l.last l.place l.invariant (sym c.in-End.ensures) c.if-t-eq3.false

pub returns-then-fault-ne0 : goal.returns-then-fault-ne0
returns-then-fault-ne0 c =
    let l = c.loop-number in
    let f = c.body_fault-fault.ensures in
    c.refused_at-then-fault-ne0.ensures ∙ ap (λ (n : ℕ). refused_at l.place n) f
    ∙ turn-fault c.args.s.now l.t.now l.cfg l.last l.place l.invariant (sym c.in-Field.ensures) (λ z. c.if-fault-ne0.true (f ∙ z))

pub overflow_add-t : goal.overflow_add-t
overflow_add-t c =
    let l = c.loop-number in
    omega (arith, turn-room c.args.s.now l.t.now l.cfg l.last l.place l.invariant (sym c.in-Field.ensures))

pub slice_bounds-t-count : goal.slice_bounds-t-count
slice_bounds-t-count c =
    let l = c.loop-number in
    turn-room c.args.s.now l.t.now l.cfg l.last l.place l.invariant (sym c.in-Field.ensures)

pub slice_bounds-t-start : goal.slice_bounds-t-start
slice_bounds-t-start c =
    let l = c.loop-number in
    turn-room c.args.s.now l.t.now l.cfg l.last l.place l.invariant (sym c.in-Field.ensures)

pub loop-number-smaller : goal.loop-number-smaller
loop-number-smaller c =
    let l = c.loop-number in
    omega (arith, turn-room c.args.s.now l.t.now l.cfg l.last l.place l.invariant (sym c.in-Field.ensures), ap length (rest-is l.t.now (3 + c.in-Field.size)), length-drop (3 + c.in-Field.size) l.t.now)

pub loop-number-preserved : goal.loop-number-preserved
loop-number-preserved c =
    let l = c.loop-number in
    rw (c.placed-cfg.ensures, c.entry_read.ensures)
    (turn_on c.args.s.now l.t.now l.cfg l.last l.place l.invariant (sym c.in-Field.ensures) (sym c.body_fault-fault.ensures ∙ c.if-fault-ne0.false) _ (rest-is l.t.now (3 + c.in-Field.size)))
