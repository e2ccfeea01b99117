-- The worked examples: states near a sound one, and the late plan.
pub mod Examples
pub mod Late
