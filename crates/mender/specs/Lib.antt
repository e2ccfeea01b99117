-- What the mender says of two files, and how it prints it.
pub mod Told
