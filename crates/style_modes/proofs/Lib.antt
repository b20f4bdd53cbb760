pub mod Documents
mod Examples
mod Firsts
mod FreeClaims
mod Pages
mod Styles
mod TyingLaws
mod Won
