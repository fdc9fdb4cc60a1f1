pub mod Folding
pub mod Offsets
pub mod Sheets
pub mod Finding
pub mod Sound
pub mod Splitting
pub mod Telling
pub mod Worked
