pub mod Acted
pub mod Turned
pub mod Laws
