pub mod Number
pub mod Refusing
pub mod Single
