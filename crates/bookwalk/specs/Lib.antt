pub mod Walks
pub mod Example
