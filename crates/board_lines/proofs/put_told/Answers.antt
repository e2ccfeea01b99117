-- `board_lines::put_told` meets its contract.
-- Assumes nothing.
use Rattle.board_lines.proofs.put_told.Goals as goal

pub returns-in-Line : goal.returns-in-Line
returns-in-Line c = rw c.in-Line.is c.put_shown.ensures.written

pub returns-in-Refused : goal.returns-in-Refused
returns-in-Refused c = rw c.in-Refused.is c.put_line.ensures

pub returns-in-Configuration : goal.returns-in-Configuration
returns-in-Configuration c = rw c.in-Configuration.is c.put_line-in-Configuration.ensures

pub returns-in-TooLong : goal.returns-in-TooLong
returns-in-TooLong c = rw c.in-TooLong.is c.put_line-in-TooLong.ensures
