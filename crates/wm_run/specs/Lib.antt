pub mod Job
pub mod Laws
pub mod Owed
pub mod Standing
