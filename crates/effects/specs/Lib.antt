-- Document 01 as definitions, with what requests have added: "The eighteen steps" and fail, each with its own refusals (6 to 16, and the 2 of a failed hand back), and one step by its code, with its claim.
pub mod Steps
pub mod Step
pub mod Fullness
