pub mod Asked
pub mod Document
pub mod Due
pub mod Input
pub mod Laws
pub mod Owed
