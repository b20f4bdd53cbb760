pub mod Examples
pub mod Order
pub mod Pieces
pub mod PlainLaws
pub mod PlainUnits
pub mod RunLaws
pub mod Upright
pub mod Walk
