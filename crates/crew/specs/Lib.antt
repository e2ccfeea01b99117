-- Demand 3 of the steps alone, and from the printed line.
pub mod Values
pub mod Crew
