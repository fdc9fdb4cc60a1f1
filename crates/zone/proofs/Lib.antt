mod PathSums
mod Promises
mod Filling
mod Inhabited
pub mod FromFn
