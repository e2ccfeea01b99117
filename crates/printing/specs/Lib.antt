-- The judge's line as the bytes that are printed.
pub mod Printed
