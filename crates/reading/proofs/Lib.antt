pub mod Stepping
pub mod SpellLaws
pub mod DecimalLaws
pub mod Turns
pub mod ManyLaws
pub mod PlaceLaws
pub mod RunLaws
pub mod WordLaws
pub mod UpToLaws
pub mod PlacedLaws
mod Examples
pub mod TextCuts
pub mod RunPlaces
pub mod TurnPlaces
pub mod UpToPlaces
pub mod WordPlaces
pub mod ClosingPlaces
pub mod StopPlaces
pub mod Running
pub mod Names
mod Tables
pub mod Shorter
pub mod Chains
pub mod TurnLaws
mod Seeking
