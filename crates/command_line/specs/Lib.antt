pub mod Command
pub mod Laws
pub mod Reading
