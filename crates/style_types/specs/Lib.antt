pub mod Initial
pub mod Style
pub mod Tree
