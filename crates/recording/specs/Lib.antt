-- Document 01, "The files": the fields of a recording, and a recording as a whole.
pub mod Recording
pub mod Whole
