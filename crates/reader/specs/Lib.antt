pub mod Records
pub mod Hearing
pub mod Reading
pub mod Inner
pub mod Promises
