mod Exact
pub mod Fits
mod Folding
mod Moving
mod ValueLaws
