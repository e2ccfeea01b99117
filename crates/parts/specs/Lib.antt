-- Judging a recording in parts, and what is claimed of it.
pub mod Parts
