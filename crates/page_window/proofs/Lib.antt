mod Examples
mod Meeting
mod Trees
mod WindowLaws
