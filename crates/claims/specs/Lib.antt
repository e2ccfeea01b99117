-- The promises from the bytes of two files on.
pub mod Claims
pub mod Editions
