pub mod Judging
pub mod Limits
pub mod Lines
pub mod Rules
