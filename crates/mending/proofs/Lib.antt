-- What the functions of mending cite: sequences by rank, the walk over a recording, what is written.
pub mod Ranking
pub mod Walking
pub mod Putting
pub mod Filling
pub mod Writing
pub mod Answering
