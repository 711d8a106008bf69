mod Quick
mod Runs
pub mod Tracked
mod Given
