-- The cause of a refusal, and what is allowed in a state.
pub mod Causes
pub mod Allowed
