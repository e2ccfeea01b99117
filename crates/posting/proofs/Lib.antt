-- Laws for the proofs of the board.
pub mod Rows
