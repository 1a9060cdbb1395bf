pub mod Draws
pub mod Made
pub mod Places
pub mod Generating
pub mod Summaries
