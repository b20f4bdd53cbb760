pub mod Characters
pub mod Cuts
pub mod Gaps
pub mod Grammar
pub mod Lexing
pub mod Numbers
pub mod Tokens
