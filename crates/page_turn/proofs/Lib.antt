mod Examples
pub mod PageLaws
mod RectLaws
mod Trees
