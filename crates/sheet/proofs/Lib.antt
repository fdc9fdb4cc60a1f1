pub mod Bits
pub mod Describing
pub mod Growing
pub mod Starting
pub mod Taking
