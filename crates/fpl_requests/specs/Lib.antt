pub mod Callers
pub mod Tables
pub mod Targets
pub mod FieldNames
pub mod Members
pub mod Requests
