-- Document 01, "The parts, and how many": the kinds of value, and payloads.
pub mod Values
