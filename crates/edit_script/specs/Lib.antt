pub mod Answered
pub mod Command
pub mod Error
pub mod Fitting
pub mod Grammar
pub mod Meaning
pub mod Script
pub mod Views
