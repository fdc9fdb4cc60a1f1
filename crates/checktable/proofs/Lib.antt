pub mod Decoding
pub mod Counting
pub mod Joining
pub mod Repeating
