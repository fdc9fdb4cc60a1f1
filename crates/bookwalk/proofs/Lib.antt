pub mod AtZero
pub mod Drafting
