-- `read_whole` meets its contract: what came with a read stands behind what came before it.
-- Assumes nothing.
use Rattle.std.proofs.Common.{rules}
use Rattle.program_io.proofs.Reading.{read-behind}
use Rattle.program_io.proofs.read_whole.Goals as goal

pub loop-done-preserved : goal.loop-done-preserved
loop-done-preserved g c =
    let remaining = g.R.Read.remaining in
    let behind = read-behind (remaining c.args.input.now) (remaining c.loop-done.input) (remaining c.read.new.self) c.loop-done.done c.in_ok-n.n c.loop-done.buf c.read.new.buf _ (search rules) (search rules) (search rules) (search rules) in
    (search rules, search rules, behind)
