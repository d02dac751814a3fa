-- What public clauses cite.
pub mod Layout
pub mod Packed
pub mod Stored
-- What the clauses inside cite.
pub mod Places
pub mod Pieces
