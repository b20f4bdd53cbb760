pub mod Owed
pub mod Refusal
pub mod Steps
pub mod Told
