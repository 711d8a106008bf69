pub mod Courses
pub mod Replays
