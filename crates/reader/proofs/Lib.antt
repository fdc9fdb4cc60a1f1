pub mod Orders
pub mod Stepping
pub mod Framing
pub mod Unique
pub mod Reading
pub mod Adjoining
