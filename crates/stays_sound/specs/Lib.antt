-- What a sound state tells, clause by clause, and what a step that is not refused may rely on.
pub mod Facts
