pub mod Holdings
pub mod Kept
pub mod Leagues
pub mod RuleNumbers
pub mod Rules
pub mod Settling
pub mod Squads
pub mod Waivers
