-- Laws for the proofs of the board's bytes.
pub mod Texts
