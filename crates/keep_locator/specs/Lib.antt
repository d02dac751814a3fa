-- What public clauses cite.
pub mod Parsing
-- What the clauses inside cite.
pub mod HintStates
