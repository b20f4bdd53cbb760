pub mod Constraint
pub mod Faces
pub mod Margins
pub mod Placing
pub mod Standing
pub mod Static
