mod DrawnLaws
mod EditLaws
mod HistoryLaws
pub mod LogLaws
mod NextLaws
mod RingLaws
mod Examples
