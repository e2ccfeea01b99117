-- The plan board at work (W-213).
pub mod Showing
