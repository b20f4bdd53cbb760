pub mod Examples
pub mod Extremes
