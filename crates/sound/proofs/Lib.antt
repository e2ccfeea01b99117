-- Laws that the proofs of this crate cite.
pub mod Whole
pub mod Tallying
pub mod Test
