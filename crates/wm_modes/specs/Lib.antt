pub mod Laws
pub mod Map
pub mod Mode
pub mod Near
pub mod Sides
pub mod Words
