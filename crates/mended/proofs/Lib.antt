-- The promises of mending, proved.
pub mod Order
pub mod Walks
pub mod Fills
pub mod First
pub mod Answers
pub mod Complete
pub mod Judged
pub mod Still
pub mod Faithful
pub mod Notes
pub mod Reports
pub mod Read
pub mod Plain
pub mod Room
pub mod Late
