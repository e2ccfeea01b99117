-- Both round trips of configurations ("The files"; "Numbers of refusal", reading a configuration and writing).
-- Assumes nothing.
use Rattle.std.specs.Prelude.{ℕ, List, length}
use Rattle.config.specs.declared.Config.{Config}
use Rattle.wire.specs.Bytes.{wrote_to, wrote_bytes}
use Rattle.wire.specs.declared.Wrote.{Wrote}
use Rattle.wire.specs.declared.Wrote.TheVariants.{To, Refused as NotWritten}
use Rattle.reading.specs.declared.Outcome.{Outcome}
use Rattle.reading.specs.declared.Outcome.TheVariants.{Whole, Refused}
use Rattle.reading.specs.declared.Reading.{Reading}
use Rattle.reading.specs.Reading.{whole_of, refused_at}

-- a text s, read and written again: the number that reading it gives, then 27 ("Numbers of refusal", writing)
abbrev pub rewrite_to : Outcome → List ℕ → List ℕ → Wrote
rewrite_to Whole s b = wrote_to b 0 (length s)
rewrite_to (Refused place number) s b = NotWritten number

-- the buffer afterwards: the same text ("The files")
abbrev pub rewrite_written : Outcome → List ℕ → List ℕ → List ℕ
rewrite_written Whole s b = wrote_bytes b 0 s
rewrite_written (Refused place number) s b = b

-- a configuration written and read back, by the answer to writing it: the same configuration, or the writer's number and no place ("The files")
abbrev pub write_and_read_of : Wrote → Config → Reading
write_and_read_of (To size) cfg = whole_of cfg
write_and_read_of (NotWritten number) cfg = refused_at 0 number
