pub mod Answers
mod Bounds
pub mod Counts
pub mod Examples
pub mod Inside
pub mod Settled
mod Steps
