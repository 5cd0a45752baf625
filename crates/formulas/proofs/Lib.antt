pub mod Roots
pub mod Listing
