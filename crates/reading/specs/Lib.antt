-- Document 01, "The files" and "Numbers of refusal": reading a configuration.
pub mod Reading
