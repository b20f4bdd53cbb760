pub mod Boxes
pub mod Exactly
pub mod Laws
pub mod Leaves
pub mod Pages
pub mod Scope
