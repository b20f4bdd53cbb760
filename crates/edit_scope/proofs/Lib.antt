mod Examples
pub mod BelowLaws
pub mod BoxLaws
pub mod ContentLaws
pub mod DepthLaws
pub mod EditLaws
pub mod EditedPages
pub mod ExactLaws
pub mod HolderLaws
pub mod InsideLaws
pub mod LeafLaws
pub mod LineLaws
pub mod PageLaws
pub mod PartLaws
pub mod PlaceLaws
pub mod ShellLaws
pub mod Taking
pub mod Untouched
