-- Document 02, W-209: gaps in a recording where the scheduler's steps were lost, and what fills them.
pub mod Orders
pub mod Gaps
pub mod Report
