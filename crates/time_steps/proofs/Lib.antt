-- Laws that the proof of spawn cites.
pub mod Places
pub mod Spawning
