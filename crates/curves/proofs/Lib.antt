pub mod Agreeing
pub mod Bounds
pub mod Circles
pub mod Constants
pub mod JumpEnd
mod Nearest
mod Patterns
pub mod Products
mod Quotients
pub mod Rising
pub mod Roots
mod Scaled
mod Shifts
