pub mod Rows
pub mod Words
pub mod Playing
pub mod Sending
pub mod Telling
