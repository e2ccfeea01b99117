-- The number of an operation goes round: demand 3 for recordings of any length, and worked examples of the machine, the mender and the board.
pub mod Length
pub mod Round
