-- Laws for the program for long recordings.
pub mod Laws
