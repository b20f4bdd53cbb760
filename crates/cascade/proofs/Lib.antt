pub mod Claiming
mod Greatest
pub mod Lines
mod Keeping
mod Listing
pub mod Holding
pub mod Chaining
mod NumberOrder
mod Members
mod Best
mod Keys
mod ReadSaid
mod SaidClaims
pub mod SameClaims
mod GreatestLaws
pub mod SaidWinners
pub mod Shelving
pub mod Unnamed
mod UpperNames
pub mod Filing
pub mod Candidates
mod Sets
mod Examples
