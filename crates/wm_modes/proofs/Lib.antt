pub mod AddUp
pub mod Examples
pub mod MapLaws
