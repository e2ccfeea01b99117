-- Laws of recordings: one field both ways, whole texts both ways, and what the loops keep.
pub mod OneField
pub mod Texts
pub mod Loops
pub mod Numbers
