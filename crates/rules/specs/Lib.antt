-- Document 01 as definitions: "A sound state", the table of codes, and refusals 2 to 5 ("Numbers of refusal").
pub mod Sound
pub mod Rows
pub mod Refusals
