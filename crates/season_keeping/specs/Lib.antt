pub mod Housed
pub mod Answering
pub mod Opening
pub mod Restarting
