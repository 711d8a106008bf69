pub mod Kinds
pub mod Faults
pub mod Modes
pub mod Tweens
pub mod Tracks
pub mod Lent
pub mod Sampling
pub mod Promises
