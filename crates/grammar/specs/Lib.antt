pub mod Grammar
pub mod Nodes
pub mod Machine
pub mod Parts
pub mod Parsing
