-- Sources and pages read out of their rows.
-- Reads  the k-th source of a mark and the k-th page of a source: in which row it stands, and what the row says
pub mod Reads
