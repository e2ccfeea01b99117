-- `put_told` meets its contract.
-- Assumes nothing.
use Rattle.mender.proofs.put_told.Goals as goal

pub returns-in-Mended : goal.returns-in-Mended
returns-in-Mended c = rw c.in-Mended.is c.put_one.ensures

pub returns-in-Refused : goal.returns-in-Refused
returns-in-Refused c = rw c.in-Refused.is c.put_two.ensures

pub returns-in-Configuration : goal.returns-in-Configuration
returns-in-Configuration c = rw c.in-Configuration.is c.put_two-in-Configuration.ensures

pub returns-in-TooLong : goal.returns-in-TooLong
returns-in-TooLong c = rw c.in-TooLong.is c.put_line.ensures
