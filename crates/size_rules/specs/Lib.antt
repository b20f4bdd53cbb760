pub mod Definite
pub mod Equation
pub mod Laws
pub mod Limits
pub mod Resolving
