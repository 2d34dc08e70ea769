pub mod Cycles
pub mod Origins
pub mod Places
pub mod Mapped
pub mod Laws
