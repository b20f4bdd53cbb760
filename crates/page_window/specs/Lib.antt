pub mod Laws
pub mod Rects
pub mod Windowing
