-- `lines::put_line` meets its contract.
-- Assumes nothing.
use Prim.Native.Nat.{◌+◌, ◌<◌}
use mathlib.Core.Path.{◌≡◌}
use native.Mathlib.Omega.{arith}
use lib.ListN.{length, take}
use borrow.Author.Rules.{rules}
use Rattle.lines.specs.Lines.{tail_of}
use Rattle.lines.proofs.Laws.{taken-all, line-short, line-put}
use Rattle.lines.proofs.put_line.Goals as goal
use Rattle.lines.proofs.put_line.Goals.{then-room-long-via-then-room-long, then-room-long-via-else-room-long+then-room-long-2, then-room-long-via-else-room-long+else-room-long-2+then-room-long-3}

pub returns-then-room-long : goal.returns-then-room-long
returns-then-room-long c =
    let a = c.args in
    let p = c.put_tail-size in
    let five : length a.numbers ≡ 5 = search rules in
    let room : length p.new.buf ≡ 106 = search rules in
    let made : take p.result p.new.buf ≡ tail_of (take a.count a.numbers) = rw (← taken-all a.numbers a.count five, ← c.min.ensures) p.ensures.buf_after in
    let short : length a.buf.now < a.at + (length a.word.now + p.result) =
    elim c.then-room-long.branch [
      | then-room-long-via-then-room-long w ↦ omega arith
      | then-room-long-via-else-room-long+then-room-long-2 w ↦ omega arith
      | then-room-long-via-else-room-long+else-room-long-2+then-room-long-3 w ↦ omega arith
    ] in
    line-short a.buf.now a.word.now _ p.new.buf a.at p.result (omega (arith, p.ensures.upper_bound)) made short

pub returns : goal.returns
returns c =
    let a = c.args in
    let p = c.put_tail-size in
    let w = c.write in
    let v = c.write-2 in
    let five : length a.numbers ≡ 5 = search rules in
    let room : length p.new.buf ≡ 106 = search rules in
    let made : take p.result p.new.buf ≡ tail_of (take a.count a.numbers) = rw (← taken-all a.numbers a.count five, ← c.min.ensures) p.ensures.buf_after in
    line-put a.buf.now a.word.now _ p.new.buf a.at p.result (omega (arith, p.ensures.upper_bound)) made w.new.buf v.new.buf w.result v.result (omega arith) w.ensures v.ensures
