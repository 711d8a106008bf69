pub mod Logs
pub mod Heads
pub mod Refusals
pub mod Steps
pub mod Places
pub mod Written
pub mod Examples
