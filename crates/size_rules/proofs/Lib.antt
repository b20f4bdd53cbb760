mod Examples
mod Near
mod Solved
