-- `next_text` meets its contract: the text stands behind its length.
-- Assumes nothing.
use Rattle.std.proofs.Common.{rules}
use Rattle.program_io.proofs.Reading.{text-behind}
use Rattle.program_io.proofs.next_text.Goals as goal

pub returns-clause-packed : goal.returns-clause-packed
returns-clause-packed g c =
    let remaining = g.R.Read.remaining in
    text-behind (remaining c.args.input.now) (remaining c.next_number.new.input) (remaining c.read_whole.new.input) c.in_ok-size.size c.in_ok-n.n c.read_whole.new.buf _ c.in_ok-size.ensures (search rules) (search rules) c.in_ok-n.ensures.bytes.0 c.in_ok-n.ensures.bytes.1
