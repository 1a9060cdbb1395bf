pub mod CommandAnswers
pub mod Begun
pub mod Refused
pub mod Followed
pub mod Counted
pub mod ViewReads
