-- What the promises of the pair table cite.
pub mod Side
pub mod Weigh
-- What weighing's promises cite. A reader of the calls needs Search and Degrees alone; the others are what inner functions promise one another.
pub mod Search
pub mod Degrees
pub mod Piles
pub mod Lists
pub mod Scan
pub mod Merge
pub mod Moved
