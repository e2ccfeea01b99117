-- What reads took, one after the other.
mod Reading
