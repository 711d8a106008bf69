pub mod Answering
pub mod Clocks
pub mod Counts
mod EasedAtZero
pub mod Fills
pub mod Owned
pub mod Picks
mod Places
pub mod Pushed
pub mod Rising
pub mod Samples
pub mod Scans
mod Shifts
pub mod Stamps
mod Times
pub mod Unchanged
pub mod Walks
