-- What the program prints is all that was answered.
pub mod Printed
