-- Which codes are a slot's and which the scheduler's; what a sound configuration tells, and what its lists say of a runnable.
pub mod Codes
pub mod Configured
pub mod Listing
