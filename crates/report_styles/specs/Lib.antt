pub mod GoingOn
pub mod Told
pub mod Lines
pub mod Views
