-- The types of values, configurations, states and entries.
pub mod Types
