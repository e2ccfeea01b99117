-- The plan board itself: its line, and the last eight lines (W-213).
pub mod Posting
