pub mod Bound
pub mod Frame
pub mod Near
pub mod PartCode
pub mod PartSizes
pub mod Parts
pub mod Placed
pub mod Placing
