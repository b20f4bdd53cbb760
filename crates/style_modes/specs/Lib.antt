pub mod Turnable
pub mod Turned
pub mod Tying
