pub mod Lines
pub mod Ports
pub mod Rulers
