-- Document 01, "The files": the text of a configuration.
pub mod Writing
