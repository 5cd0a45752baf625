pub mod Holding
pub mod Showing
pub mod Telling
pub mod Checking
