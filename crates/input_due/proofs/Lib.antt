pub mod DocumentLaws
mod Examples
pub mod OneDue
mod OwedExamples
pub mod Taken
