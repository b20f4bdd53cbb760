pub mod Adjoining
pub mod Children
pub mod Laws
pub mod Reached
pub mod Stacked
pub mod Stacking
