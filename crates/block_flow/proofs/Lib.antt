pub mod AdjoiningLaws
pub mod Examples
pub mod Lengths
pub mod Steps
pub mod Walk
