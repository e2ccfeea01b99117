-- Laws of waits, and what the two walks over a recording keep.
pub mod Waits
pub mod Walking
