-- Two waits are one wait: of counts and tables, of steps, of verdicts, and of the tool.
pub mod Adding
pub mod Waits
pub mod Verdicts
pub mod Tool
