mod Attributing
mod Joining
mod Letters
mod Miscellany
mod Numbers
mod Runs
pub mod MiscLaws
mod CharacterLaws
mod ReferenceLaws
mod ValueLaws
pub mod AttributeLaws
pub mod TextLaws
pub mod PlaceLaws
mod PlainRuns
pub mod MiscPlaces
mod AttributePlaces
mod AttributeFronts
pub mod GapTexts
mod TagNames
mod TableRows
