-- The laws about frames and their parts.
pub mod Frames
pub mod Characters
pub mod Letters
-- The laws about the order of frames, and about the step behind one.
pub mod Stages
pub mod Steps
-- The laws about texts at a place of lent room.
pub mod Writes
pub mod Places
