-- Document 01, "The parts, and how many": the state's parts and tables, its queues and stacks, and the start state.
pub mod Places
pub mod Parts
pub mod Tables
pub mod Fields
pub mod Queues
pub mod Start
