-- `choice_at` meets its contract.
-- Assumes nothing.
use borrow.Author.Tests.{lt-ltb, le-ltb}
use Rattle.searching.specs.Search.{choice_at}
use Rattle.searching.proofs.choice_at.Goals as goal

pub returns-then-k-spawns : goal.returns-then-k-spawns
unfolding choice_at
returns-then-k-spawns c = rw (c.choice.ensures, lt-ltb _ _ c.if-k-spawns.true)

pub returns-then-k-both : goal.returns-then-k-both
unfolding choice_at
returns-then-k-both c = rw (c.choice-then-k-both.ensures, le-ltb _ _ c.if-k-spawns.false, lt-ltb _ _ c.if-k-both.true)

pub returns : goal.returns
unfolding choice_at
returns c = rw (c.choice-2.ensures, le-ltb _ _ c.if-k-spawns.false, le-ltb _ _ c.if-k-both.false)
