pub mod Sights
pub mod Ways
pub mod Follows
