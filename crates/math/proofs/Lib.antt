pub mod Beneath
pub mod Blends
pub mod Bounded
pub mod Bytes
pub mod Ceiling
pub mod Choice
pub mod Equals
mod Examples
pub mod Fitting
mod Form
mod Least
pub mod Lists
pub mod Losses
pub mod Numbers
pub mod Order
pub mod Ordered
pub mod Parts
pub mod Patterns
pub mod Ranges
pub mod Remainders
pub mod Sizes
pub mod Tallies
pub mod Units
pub mod Upward
mod WholePart
pub mod Wholes
pub mod Zeros
