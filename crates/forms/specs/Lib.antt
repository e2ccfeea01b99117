-- Document 02, W-207: the short form of a recording, and its numbers.
pub mod Numbers
pub mod Short
