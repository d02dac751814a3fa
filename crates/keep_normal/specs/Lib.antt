-- What public clauses cite.
pub mod Files
pub mod FirstUse
pub mod Grouped
pub mod Joined
pub mod Normal
pub mod Outcomes
-- What the clauses inside cite.
pub mod Known
pub mod Placed
pub mod Sound
