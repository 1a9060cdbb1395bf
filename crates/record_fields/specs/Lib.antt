pub mod FieldReading
pub mod Fields
pub mod Given
pub mod ListReading
pub mod Lists
pub mod Ranges
pub mod Reading
