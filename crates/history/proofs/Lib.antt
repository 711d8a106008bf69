pub mod Folding
pub mod Standing
pub mod Keeping
pub mod Demand
pub mod Example
