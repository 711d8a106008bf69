pub mod Answering
pub mod Constants
pub mod Ends
pub mod Finite
mod Rest
pub mod Starts
pub mod Tags
pub mod Unchanged
