-- Laws of the least, and the theorems of this crate.
pub mod Passing
