-- The laws of choices, loops and rows.
pub mod Choosing
pub mod Looping
pub mod Masks
pub mod Places
pub mod Twice
pub mod Ranges
