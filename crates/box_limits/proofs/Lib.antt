pub mod Alike
pub mod Among
pub mod Editing
mod Examples
pub mod Finding
pub mod Judged
pub mod Leasts
pub mod Levels
pub mod Origins
pub mod Parts
pub mod Placing
pub mod Renumbering
pub mod Walks
pub mod Winning
