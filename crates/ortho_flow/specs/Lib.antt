pub mod Orthogonal
