pub mod Said
pub mod Styling
