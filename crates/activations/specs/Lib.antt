-- What counting activations promises (W-212).
pub mod Claims
