-- What public clauses cite.
pub mod Causes
-- What the clauses inside cite: a good manifest as a test, and parsing as one value that is the result or the first refusal.
pub mod Builder
pub mod Escapes
pub mod Good
pub mod Parsing
pub mod Tokens
