pub mod Bounds
pub mod Boxes
pub mod Laws
pub mod Own
pub mod Positions
pub mod Shifting
pub mod Totals
pub mod Turned
