mod Axes
mod Bounded
mod Examples
mod FoundBoxes
mod Listed
mod Pages
mod PositionLists
mod ShiftLaws
mod Sums
mod Trees
pub mod TurnLaws
