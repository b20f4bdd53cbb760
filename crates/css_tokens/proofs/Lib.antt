mod Running
mod Counting
mod Stringing
mod Gapping
pub mod GapLaws
pub mod NameLaws
pub mod StringLaws
pub mod NumberLaws
pub mod TokenLaws
pub mod Spelling
pub mod NumberBounds
