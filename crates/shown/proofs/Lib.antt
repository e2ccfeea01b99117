-- What the board shows is so, and what is so is shown (W-213).
pub mod Meant
pub mod Lines
pub mod Kept
pub mod Numbered
