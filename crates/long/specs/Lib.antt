-- What the program for long recordings relies on.
pub mod Near
