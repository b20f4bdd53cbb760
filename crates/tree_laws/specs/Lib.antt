pub mod Doable
pub mod Held
pub mod Laws
pub mod Reached
pub mod Stepped
pub mod Weight
pub mod Wholeness
