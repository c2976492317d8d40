-- Discovery's pages with their universes, in lent memory.
-- Leaves     what becomes of an owner's pages when leaves are added, dropped, cut or turned; how many there are
-- Pool       turns of loops over the pool
-- Lent       how long the pool is, and what of it stays the caller's
-- Passes     what a pass over the pages asks and leaves, turn by turn
-- Steps      one page put in its place or behind all others, with room in the pool
-- Contracts  page rows and pool in a contract, before and after a call
pub mod Leaves
pub mod Pool
pub mod Lent
pub mod Passes
pub mod Steps
pub mod Promises
