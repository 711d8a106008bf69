pub mod Kinds
pub mod Params
pub mod Apply
pub mod Ends
pub mod Promises
pub mod Values
