pub mod AddLaws
pub mod ApplyLaws
pub mod BackLaws
pub mod ChildLaws
pub mod CopyLaws
pub mod CountLaws
pub mod DepthLaws
pub mod DropLaws
pub mod ExactlyLaws
pub mod FillLaws
pub mod InsertLaws
pub mod JudgeLaws
pub mod KeepLaws
pub mod MoveLaws
pub mod Places
pub mod RemoveLaws
pub mod RestoreLaws
pub mod RootLaws
pub mod SameLaws
pub mod StandLaws
pub mod StepLaws
pub mod TakeLaws
pub mod TurnLaws
pub mod WriteLaws
mod Examples
mod ExactlyExamples
mod OpenElements
mod StepExamples
mod TreeLaws
mod WholeLaws
