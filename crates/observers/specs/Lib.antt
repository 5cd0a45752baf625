pub mod Foresight
pub mod Turned
