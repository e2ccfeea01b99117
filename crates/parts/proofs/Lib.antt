-- Judging in parts is judging in one.
pub mod Laws
pub mod Proofs
