pub mod Runs
pub mod Sofar
pub mod Excess
pub mod Once
pub mod Exists
pub mod Moved
