-- What holds of the copies' definitions, used by the proofs of their code.
pub mod Given
