-- Laws of the two forms, what the walks of the moves keep, both round trips, and texts of either form.
pub mod Standing
pub mod Putting
pub mod Lengthening
pub mod Answers
pub mod Shortening
pub mod Both
pub mod Either
