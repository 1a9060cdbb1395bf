pub mod Books
pub mod ClassicStanding
pub mod Scores
pub mod HeadStanding
pub mod Shapes
pub mod Rounds
pub mod Places
