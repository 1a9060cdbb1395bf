pub mod Leagues
pub mod Cups
