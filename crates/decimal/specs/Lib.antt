pub mod Inner
pub mod Printing
pub mod Promises
pub mod Reading
