-- What the code of copies is said in, beyond the definitions of crate effects.
pub mod Given
