mod Cycles
mod Order
mod Names
mod Reading
