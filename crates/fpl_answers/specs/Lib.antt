pub mod Answers
pub mod FixtureParts
pub mod KeptPlaces
pub mod KindNames
pub mod LeagueData
pub mod MemberData
pub mod RuleData
pub mod ShownData
