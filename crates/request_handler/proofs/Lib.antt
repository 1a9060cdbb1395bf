pub mod FaultFacts
pub mod IsolationFacts
pub mod OnceFacts
pub mod StorelessFacts
pub mod WholeFacts
mod AnsweredLemmas
pub mod KeptLemmas
pub mod AnsweredLeads
pub mod JudgedLemmas
pub mod AlongLemmas
pub mod LookLemmas
