pub mod Limits
pub mod Sampling
pub mod Pushing
pub mod Inner
pub mod Promises
pub mod Values
