pub mod Faults
pub mod Files
pub mod Folder
pub mod Laws
pub mod Reports
pub mod Rows
pub mod Writers
