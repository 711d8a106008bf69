-- Laws that the functions' proofs cite.
pub mod Passed
pub mod Entered
pub mod Moved
pub mod Over
pub mod Placed
pub mod PushBack
pub mod PushDone
pub mod PushPasses
pub mod Pushes
pub mod Rows
pub mod Sound
pub mod Spliced
pub mod Stamped
