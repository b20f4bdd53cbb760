pub mod Ascending
pub mod Blocks
pub mod Classed
pub mod Examples
pub mod Facts
pub mod Outside
pub mod PairLaws
pub mod Standing
