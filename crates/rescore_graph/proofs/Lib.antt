pub mod ReplayFacts
pub mod RaisedFacts
pub mod ProgressFacts
pub mod WorkFacts
pub mod LevelFacts
pub mod ChangeFacts
pub mod RemainsFacts
pub mod HashFacts
