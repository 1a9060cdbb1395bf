pub mod DrawFacts
pub mod MadeFacts
pub mod CourseLemmas
pub mod SumLemmas
