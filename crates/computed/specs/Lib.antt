pub mod Laws
pub mod Lengths
pub mod Sides
pub mod Step
pub mod Values
pub mod Winners
