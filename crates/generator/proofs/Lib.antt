mod Examples
pub mod Short
