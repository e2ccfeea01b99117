-- A line of text: a word, numbers and the end of the line.
pub mod Lines
pub mod Words
