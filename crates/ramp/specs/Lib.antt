pub mod Ramps
