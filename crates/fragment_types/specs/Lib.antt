pub mod Fragment
pub mod Glyphs
pub mod Item
pub mod RunUnit
