mod Branches
pub mod Bounds
pub mod Examples
pub mod Glides
pub mod Handed
pub mod Kept
pub mod KeptByUpdate
pub mod Losses
pub mod Reported
pub mod Unchanged
pub mod Valued
pub mod Ways
