-- The bytes of the plan board (W-213).
pub mod Printed
