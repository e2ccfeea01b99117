-- Laws of one field in the short form, for its code and for both ways.
pub mod Laws
pub mod Pieces
pub mod Told
pub mod OneShort
pub mod Let
