use Rattle.config.proofs.Lists.has_at.Goals as goal

pub returns-then-lists_at : goal.returns-then-lists_at
returns-then-lists_at c = rw c.element_at.ensures (rw (← c.lists_at.ensures) (rw c.if-lists_at.true))

pub returns-else-lists_at : goal.returns-else-lists_at
returns-else-lists_at c = rw (← c.lists_at.ensures) (rw c.if-lists_at.false)
