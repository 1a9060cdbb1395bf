pub mod HoldingLemmas
pub mod Keeping
pub mod Settlings
pub mod Squads
pub mod Tables
mod Worked
