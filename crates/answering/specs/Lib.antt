-- What the promises of the programs cite.
pub mod Prints
pub mod Steps
pub mod ThinPrints
