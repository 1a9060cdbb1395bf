pub mod Kinds
pub mod Pages
pub mod Replies
pub mod Forms
pub mod Fates
