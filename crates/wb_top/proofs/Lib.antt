pub mod Judged
pub mod Read
pub mod Joined
pub mod Lines
pub mod Told
pub mod Decides
pub mod Headline
pub mod EmittedBy
