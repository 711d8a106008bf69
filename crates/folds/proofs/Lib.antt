pub mod Folds
pub mod Ways
