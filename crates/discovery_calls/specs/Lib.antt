-- The struct Discovery and its calls.
-- Moves      moves on heads and leaves: what they make of the sources seen, and that they stay sound
-- View       the sources seen in the state and its memory; what is presupposed (Kept) and left (Holds, Dropped)
-- Calls      a source begun, extended, listed
-- Arrive     a page's arrival case by case; what the call promises (Took, Arrival, Called)
-- Sweep      a universe ends; expired sources go
-- Contracts  the lent memory in a contract, before and after a call
pub mod Moves
pub mod View
pub mod Calls
pub mod Arrive
pub mod Sweep
pub mod Promises
