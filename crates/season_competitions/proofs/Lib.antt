pub mod KnownFacts
pub mod CupFacts
pub mod LeagueFacts
pub mod MemberFacts
