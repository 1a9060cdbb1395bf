pub mod Lines
pub mod Options
pub mod Orders
pub mod Values
