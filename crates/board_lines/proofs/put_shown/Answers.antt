-- `board_lines::put_shown` meets its contract.
-- Assumes nothing.
use native.Mathlib.Omega.{arith}
use Rattle.board_lines.specs.Printed.{wait_word, no_plan_words, none_word, unjudged_word}
use Rattle.board_lines.proofs.Texts.{final-short, word-length}
use borrow.Author.Rules.{rules}
use Rattle.board_lines.proofs.put_shown.Goals as goal

pub returns-in-Final : goal.returns-in-Final
returns-in-Final c = rw c.in-Final.is (record { written = c.put_line.ensures; x_len_bound = final-short _ (search rules) })

pub returns-in-Wait : goal.returns-in-Wait
returns-in-Wait c = rw c.in-Wait.is (record { written = c.put_line-in-Wait.ensures; x_len_bound = omega (arith, word-length wait_word) })

pub returns-in-NoPlan : goal.returns-in-NoPlan
returns-in-NoPlan c = rw c.in-NoPlan.is (record { written = c.put_line-in-NoPlan.ensures; x_len_bound = omega (arith, word-length no_plan_words) })

pub returns-in-None : goal.returns-in-None
returns-in-None c = rw c.in-None.is (record { written = c.put_line-in-None.ensures; x_len_bound = omega (arith, word-length none_word) })

pub returns-in-Unjudged : goal.returns-in-Unjudged
returns-in-Unjudged c = rw c.in-Unjudged.is (record { written = c.put_line-in-Unjudged.ensures; x_len_bound = omega (arith, word-length unjudged_word) })
