-- What the promises of judging links cite.
pub mod Links
-- What the promises of links held against labels cite.
pub mod Records
-- What the promises over either form of links cite.
pub mod Forms
-- What the promises of the pair table cite.
pub mod Table
