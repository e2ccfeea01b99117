-- What is claimed of recordings of any length.
pub mod Length
