pub mod Kept
pub mod Gathered
pub mod ItemTokens
pub mod LiveLaws
