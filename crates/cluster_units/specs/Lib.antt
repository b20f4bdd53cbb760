pub mod Cluster
pub mod Gathering
pub mod Laws
pub mod Plain
pub mod Runs
pub mod Text
pub mod Unit
