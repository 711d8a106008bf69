-- Laws that the functions' proofs cite.
pub mod Filled
pub mod Fronts
pub mod Told
pub mod Written
