pub mod Log
pub mod Sight
pub mod Law
pub mod Calls
