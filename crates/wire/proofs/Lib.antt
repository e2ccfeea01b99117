-- Laws of bytes that the readers and writers of both files cite.
pub mod Laws
pub mod Pieces
