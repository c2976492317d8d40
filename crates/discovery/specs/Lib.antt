-- What discovery means.
-- Discovery  the definitions, in document 01's order: sources and pages, a page's arrival, a universe's end, the sweep, what is kept in order
-- Laws       each source by itself; calls about different sources in either order
-- Kept       every call keeps the lists in their order and within their counts
-- Expiry     the sweep by a time: who stays, what it was, what 0 means
-- Trials     document 01's sentences and trial values by numbers
pub mod Discovery
pub mod Laws
pub mod Kept
pub mod Expiry
pub mod Trials
