-- What came of reading an input.
pub mod Got
-- The line of one recording among several.
pub mod Named
-- Numbers and texts packed one behind the other.
pub mod Packed
