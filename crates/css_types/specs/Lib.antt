pub mod Keywords
pub mod Laws
pub mod Page
pub mod Property
pub mod Reach
pub mod Rule
pub mod Table
pub mod Value
