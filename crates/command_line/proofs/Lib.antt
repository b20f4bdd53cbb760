mod Examples
pub mod JobLaws
pub mod Lines
pub mod Looking
pub mod Turns
pub mod ValueLaws
pub mod Walking
