-- The laws about the meaning, from the ground up, and the theorems.
pub mod Tests
pub mod Judge
pub mod Sums
pub mod Totals
pub mod Tallies
pub mod Sets
pub mod Firm
pub mod Groups
pub mod Heaps
pub mod Runs
pub mod Ends
pub mod Cases
pub mod Theorems
pub mod Bytes
pub mod Room
