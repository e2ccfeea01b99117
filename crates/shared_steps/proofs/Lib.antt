-- Laws of loops over tables, which the proofs of the steps cite.
pub mod Stopping
