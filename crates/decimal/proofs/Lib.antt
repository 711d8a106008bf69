pub mod Answers
pub mod Close
mod Examples
pub mod Fewest
pub mod Fractions
pub mod Heard
pub mod Places
pub mod Powers
pub mod Printed
pub mod ReadsBack
pub mod Scanning
pub mod Sizes
pub mod Texts
