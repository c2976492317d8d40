pub mod Fields
pub mod FieldLaws
pub mod Lines
pub mod LineLaws
pub mod Script
pub mod ScriptLaws
pub mod TurnLaws
pub mod TurnsAt
