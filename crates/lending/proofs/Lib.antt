-- What the contract of `step_lent` comes to.
pub mod Boards
