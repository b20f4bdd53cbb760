pub mod Kinds
pub mod Laws
pub mod Rects
pub mod Turning
