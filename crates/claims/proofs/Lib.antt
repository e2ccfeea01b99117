-- From the bytes of two files to the runs that the promises speak of, and back.
pub mod Counted
pub mod Stopped
pub mod Told
pub mod Verdicts
pub mod FromBytes
pub mod Kept
pub mod Editions
