-- What the test of a configuration tells of its kinds and entries, laws of the tags, and of the lists of elements.
pub mod Kind
pub mod Tags
pub mod Editions
pub mod Listing
