pub mod Visual
pub mod Blanks
pub mod Laws
pub mod Line
pub mod Paragraph
pub mod Reversals
