-- What is printed of an answer.
pub mod Shown
