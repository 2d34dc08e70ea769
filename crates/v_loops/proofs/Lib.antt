pub mod Steps
mod Stages
mod Covered
mod Local
mod Held
mod Constant
pub mod Listed
pub mod Driven
mod Adding
mod Removing
pub mod Sharing
mod Passing
mod Turning
mod Answering
mod OneModule
