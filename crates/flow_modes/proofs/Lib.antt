pub mod AskLaws
pub mod BoxLaws
pub mod ContentLaws
mod Examples
pub mod FlowLaws
mod LayoutExamples
pub mod LineLaws
pub mod PageLaws
pub mod ParagraphLaws
pub mod PreparedLaws
pub mod SideLaws
pub mod SizeLaws
pub mod UnitLaws
