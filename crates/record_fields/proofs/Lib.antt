pub mod Each
pub mod FieldLaws
pub mod Loops
