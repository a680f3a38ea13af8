-- The laws of the pair table.
pub mod Sides
pub mod SideBytes
-- Laws of the search.
pub mod Listing
pub mod Laying
pub mod Moving
pub mod Rows
pub mod Taking
pub mod Scanning
pub mod Contracting
pub mod Searching
pub mod Finding
pub mod Noting
pub mod Unique
