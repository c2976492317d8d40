-- The two merges as code.
-- Returns  the highest values place by place, as the loop lays them; one law for each return
pub mod Returns
