mod Bounds
mod Examples
pub mod PartLists
mod Trees
