-- What holds of the definitions of an end, used by the proofs of their code.
pub mod Ending
