pub mod Shown
pub mod Reports
pub mod Checks
