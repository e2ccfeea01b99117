-- What the board promises (W-213).
pub mod Claims
