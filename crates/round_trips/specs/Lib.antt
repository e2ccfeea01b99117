-- Document 01, "The files": a configuration's text, there and back.
pub mod Trip
