pub mod Refusals
pub mod Cells
pub mod Labels
pub mod Rooms
pub mod Sheets
pub mod Machines
