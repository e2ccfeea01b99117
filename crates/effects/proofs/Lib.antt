-- Laws of the definitions: the codes of the table, and what a step of each does; answers that agree with claims; what a send says; pending activations.
pub mod Agreeing
pub mod Codes
pub mod Pending
pub mod Sends
