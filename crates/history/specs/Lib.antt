-- The history of a recording, and the promises over it ("How tight the contracts are", demand 3).
pub mod History
pub mod Promises
pub mod Sends
pub mod Editions
