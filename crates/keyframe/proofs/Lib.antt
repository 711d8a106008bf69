pub mod Batches
mod Changes
pub mod Kept
pub mod Losses
mod Moves
pub mod Promises
pub mod Records
pub mod Refusals
pub mod Ticks
pub mod Unchanged
