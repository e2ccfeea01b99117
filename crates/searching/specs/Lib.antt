-- The search for lost steps, as code goes about it (W-209).
pub mod Search
