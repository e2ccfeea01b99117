-- The numbers that the documents give, by name: refusals, codes of steps, tags and lengths of fields.
pub mod Refusals
pub mod Codes
pub mod Tags
