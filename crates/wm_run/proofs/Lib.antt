pub mod CountLaws
mod Examples
pub mod JobLaws
pub mod OneResult
pub mod StandingLaws
