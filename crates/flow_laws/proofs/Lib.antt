pub mod AtomLaws
pub mod ConstraintLaws
mod Examples
pub mod MarginLaws
pub mod PlacingLaws
pub mod StackLaws
pub mod StandingLaws
pub mod StaticBoxes
pub mod StaticFlow
pub mod StaticLaws
pub mod StaticLines
pub mod StaticText
