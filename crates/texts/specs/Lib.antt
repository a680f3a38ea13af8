-- What the reader's promises cite.
pub mod Lines
pub mod Reader
pub mod Walk
pub mod Judging
pub mod Storing
-- What the promises of the lines' writers cite.
pub mod Kinds
pub mod Writing
-- What the input writer's promises cite.
pub mod Inputs
pub mod Steps
-- What the writers' promises cite.
pub mod Writers
pub mod ResultSteps
