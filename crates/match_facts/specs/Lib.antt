pub mod Columns
pub mod Laws
pub mod Lending
pub mod Marks
pub mod Tables
