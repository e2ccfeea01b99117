-- Laws of lists in order, and of gaps and fills.
pub mod Ordered
pub mod Same
pub mod Answers
pub mod Members
pub mod Reported
pub mod Turns
