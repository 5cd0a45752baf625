pub mod Numbering
pub mod Once
pub mod Walking
