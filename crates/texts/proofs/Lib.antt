-- The laws about rows, and about what is answered behind them.
pub mod Rows
-- The laws about lines and the frames in them, and about reading them.
pub mod Lines
pub mod KindNumbers
pub mod Walks
pub mod Judging
pub mod ReadsText
pub mod Advances
pub mod ReadsRows
pub mod ReadsStore
pub mod Held
pub mod ReadsPut
pub mod ReadsAll
-- The laws about lines of a kind, and about what a writer answers.
pub mod WritesLines
pub mod Fronts
-- The laws about writing an input text.
pub mod WritesRows
pub mod WritesLinks
pub mod WritesInput
-- The laws about writing a result text, and the theorems about texts.
pub mod WritesTexts
pub mod WritesResult
pub mod RoundTripLines
pub mod RoundTripWritten
pub mod RoundTripRead
pub mod RoundTripCalls
pub mod Texts
