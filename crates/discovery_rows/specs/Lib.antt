-- Discovery's lent rows.
-- Store  heads and leaves: a source's row without its pages, a page's with its owner; the sources seen in them
-- Rows   rows as heads and leaves; whether a source's pages are all there, row by row
-- Walks  turns of loops over rows; where a walk begins and ends
pub mod Store
pub mod Rows
pub mod Walks
