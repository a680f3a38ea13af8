-- The laws of the record of cuts.
pub mod Entries
pub mod Cuts
pub mod Narrow
pub mod Same
-- The laws of heaps.
pub mod Names
pub mod Parting
pub mod Renaming
-- The laws of a replay.
pub mod Lawful
-- The laws of cutting.
pub mod Alike
pub mod Finish
pub mod Going
pub mod Continuing
pub mod Answers
pub mod Small
pub mod Carried
pub mod Judged
pub mod Demands
pub mod Unique
pub mod Labelling
pub mod Keeping
pub mod JudgedThin
