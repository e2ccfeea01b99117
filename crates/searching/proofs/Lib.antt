-- What the search cites: choices by number, how many sequences there are, and what is passed over.
pub mod Counting
pub mod Searching
pub mod Ranks
