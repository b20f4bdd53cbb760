pub mod Lines
pub mod Listing
pub mod Runs
pub mod TextStanding
pub mod Words
