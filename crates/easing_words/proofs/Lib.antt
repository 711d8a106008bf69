pub mod Applied
mod Plain
