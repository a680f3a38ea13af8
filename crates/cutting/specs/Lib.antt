-- What the promises of the record of cuts cite.
pub mod Record
-- What heaps' promises cite.
pub mod Names
-- What the promise of a replay cites.
pub mod RecordRows
pub mod Replay
-- What cutting's promises cite.
pub mod Rows
pub mod Finish
pub mod Runs
pub mod Calls
pub mod Above
