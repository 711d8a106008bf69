pub mod Answers
pub mod Easings
pub mod Logs
pub mod Replays
pub mod Tracks
pub mod Tweens
