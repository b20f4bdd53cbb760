pub mod Ahead
pub mod Filling
pub mod Forward
pub mod Item
pub mod Laws
pub mod Sizes
pub mod Sums
pub mod Widest
