pub mod Places
pub mod Acts
pub mod Histories
pub mod Desks
pub mod Sessions
