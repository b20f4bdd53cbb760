pub mod Error
pub mod Faces
pub mod Kinds
pub mod Living
pub mod Rows
pub mod Table
