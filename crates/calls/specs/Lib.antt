-- What the promises of the calls cite.
pub mod Told
