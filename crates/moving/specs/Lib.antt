-- Document 02, W-207: the old form that a text stands for, the moves from one form to the other, and what is claimed of them.
pub mod Old
pub mod Moves
pub mod Claims
