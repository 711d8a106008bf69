pub mod Parts
pub mod Limits
pub mod Calls
pub mod Update
pub mod Losses
pub mod Inner
pub mod Promises
pub mod Values
