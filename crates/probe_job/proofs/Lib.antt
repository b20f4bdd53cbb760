mod Examples
mod Puts
