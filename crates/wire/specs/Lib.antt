-- Document 01, "The files": numbers as bytes, and a run of bytes in a lent buffer.
pub mod Bytes
