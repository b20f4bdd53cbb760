mod Examples
mod Hexadecimal
mod Pushed
mod Puts
mod Told
mod Trees
mod Whole
