pub mod LinesLemmas
pub mod FieldsLemmas
pub mod StreamLemmas
pub mod PartsLemmas
pub mod StoredLemmas
pub mod HeldLemmas
pub mod ResponsesLemmas
mod LiftLemmas
pub mod RunLemmas
mod ServedLemmas
mod SessionLemmas
mod SplitLemmas
mod StayLemmas
