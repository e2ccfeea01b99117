-- Laws that the proofs of steps cite by which a value is handed over.
pub mod Noted
