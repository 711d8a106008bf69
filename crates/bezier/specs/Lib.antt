pub mod Curve
pub mod Search
pub mod Bezier
pub mod Promises
