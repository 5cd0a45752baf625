pub mod Refusals
pub mod Digits
pub mod Sheets
pub mod Machines
pub mod Letters
-- What proves the law of the two notations that a line has one meaning: the source can cite it from here alone, and no contract does.
pub mod Once
