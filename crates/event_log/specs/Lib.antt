pub mod Format
pub mod Writing
pub mod Promises
