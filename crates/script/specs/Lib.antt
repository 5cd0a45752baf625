pub mod Refusals
pub mod Acts
pub mod Seats
pub mod Turns
pub mod Replies
pub mod Scripts
