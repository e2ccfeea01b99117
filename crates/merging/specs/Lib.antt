-- Neighbouring waits merged (W-203): which waits add up, steps with their waits merged, and what the tool answers and leaves in the lent buffer.
pub mod Waits
pub mod Merging
