-- How far time may go (ours).
pub mod Passing
