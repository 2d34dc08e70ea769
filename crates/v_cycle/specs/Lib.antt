pub mod Setting
pub mod Changing
pub mod Chain
pub mod Alike
pub mod Running
pub mod Next
