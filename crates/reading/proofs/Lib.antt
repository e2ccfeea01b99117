-- Laws of reading a configuration: what a turn of the reading does, and that what is read is sound.
pub mod Ahead
pub mod Adding
pub mod Kept
pub mod Sound
