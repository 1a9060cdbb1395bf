pub mod Records
pub mod Filing
