-- What the words of the bench mean, rule by rule.
pub mod Count
pub mod Tally
pub mod Firm
pub mod Heap
pub mod Judge
pub mod Bytes
pub mod Room
pub mod Cases
