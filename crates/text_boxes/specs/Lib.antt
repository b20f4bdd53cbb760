pub mod Boxes
pub mod Documents
pub mod Finding
pub mod Laws
pub mod Setting
