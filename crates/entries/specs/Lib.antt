-- Document 01, "The files" and "Numbers of refusal": entries of a configuration, and when a configuration is sound.
pub mod Entries
pub mod Faults
