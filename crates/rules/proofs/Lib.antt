pub mod BytesLaws
pub mod CidLaws
pub mod SequenceLaws
