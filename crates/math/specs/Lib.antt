pub mod Rounded
pub mod Bits
pub mod Blend
pub mod Range
pub mod Whole
pub mod Lost
pub mod Lists
pub mod Bytes
