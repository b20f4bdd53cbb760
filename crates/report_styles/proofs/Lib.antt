mod OpenStrings
mod Seeking
mod Turning
mod Walking
mod Whole
mod Examples
