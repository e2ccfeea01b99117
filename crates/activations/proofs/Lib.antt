-- Pending activations as a count with a top: of one step, of a run, and by the flag; and the two orders of spawn and send.
pub mod Steps
pub mod Runs
pub mod Flag
