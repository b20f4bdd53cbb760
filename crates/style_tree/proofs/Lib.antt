mod Examples
mod Going
mod Joining
mod Rooting
