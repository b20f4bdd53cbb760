mod Examples
mod Marking
mod Turning
