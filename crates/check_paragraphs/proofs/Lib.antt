mod Atoms
mod Lines
mod Texts
