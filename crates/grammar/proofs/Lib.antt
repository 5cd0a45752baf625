pub mod Complete
pub mod Sound
pub mod Places
pub mod Counting
pub mod Steps
