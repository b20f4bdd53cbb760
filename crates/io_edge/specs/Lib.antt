pub mod Edge
pub mod Error
pub mod Memory
