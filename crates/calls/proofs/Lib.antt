-- What the calls from C settle.
pub mod Unique
