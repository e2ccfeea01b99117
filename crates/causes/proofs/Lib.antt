-- The theorems of this crate.
pub mod Numbers
pub mod Asked
