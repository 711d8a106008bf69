pub mod Reading
pub mod Checking
pub mod Pushing
pub mod Inner
pub mod Promises
