-- What the promises about frames cite.
pub mod Frame
pub mod Kinds
pub mod Characters
-- What the promises about the order of frames cite.
pub mod Stages
pub mod Step
-- What the promise of a line's writer cites.
pub mod Placing
