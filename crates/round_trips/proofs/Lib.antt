-- Laws of both round trips: an entry and its field; read, then written; written, then read.
pub mod Fitting
pub mod EachEntry
pub mod Growing
pub mod Again
pub mod Sameness
pub mod Standing
pub mod Back
