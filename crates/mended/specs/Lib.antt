-- What mending promises (W-209).
pub mod Claims
pub mod Faithful
pub mod Plain
