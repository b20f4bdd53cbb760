pub mod Classes
pub mod Laws
pub mod Pairs
pub mod Ranges
pub mod Repertoire
