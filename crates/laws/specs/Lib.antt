-- The words in which every definition of the project is written. No machine in them.
pub mod Choice
pub mod Loop
pub mod Mask
pub mod Row
