mod Examples
pub mod OwedLaws
pub mod StepLaws
