pub mod Fitting
pub mod Stepping
pub mod Valuing
