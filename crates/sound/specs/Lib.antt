-- "A sound state" as code: what the functions of this crate are said in, beyond the definitions of crate rules.
pub mod Only
pub mod Tally
pub mod Walk
