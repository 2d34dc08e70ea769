mod Coming
mod Dotted
mod Using
mod Renaming
mod InputBits
