pub mod Refusals
pub mod Formed
pub mod Texts
pub mod Lexing
pub mod Limits
pub mod Outcomes
pub mod Reading
