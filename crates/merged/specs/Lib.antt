-- What merging waits promises (W-203).
pub mod Claims
