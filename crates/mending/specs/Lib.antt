-- How code goes about mending: choices by number, sequences by rank, and the states on the way.
pub mod Going
