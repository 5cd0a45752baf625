pub mod Signs
pub mod Formulas
pub mod Trees
