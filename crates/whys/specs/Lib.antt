-- Why a step is refused, finer than its number.
pub mod Whys
