mod Anywhere
mod Eaches
mod Examples
mod Families
mod Listing
mod Openings
mod Pieces
mod Valuing
mod TokenFirsts
mod ByLength
pub mod ComponentLaws
pub mod DeclarationLaws
pub mod AnsweredLaws
mod ReportLaws
mod NameRows
mod Sayable
mod Taking
mod Declaring
pub mod Keeping
