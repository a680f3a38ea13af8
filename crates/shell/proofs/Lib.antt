-- The laws of what is printed.
pub mod Printing
