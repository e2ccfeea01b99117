-- That each contract of the public face determines what it speaks of.
pub mod Unique
