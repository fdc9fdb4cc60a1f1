pub mod Cases
pub mod Gives
pub mod Lines
