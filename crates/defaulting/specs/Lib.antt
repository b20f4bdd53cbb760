pub mod Defaulting
pub mod InitialStyle
pub mod SimpleValues
