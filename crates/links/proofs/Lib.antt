-- The laws of links and of the rows that judge them.
pub mod LinksRows
pub mod LinksBytes
-- The laws of link records.
pub mod FormFront
pub mod RecordsKept
-- The laws of the pair table.
pub mod TableSpots
pub mod TableAdds
pub mod TableHeld
pub mod TableRaised
