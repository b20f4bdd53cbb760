pub mod Change
pub mod Edited
pub mod Exact
pub mod State
