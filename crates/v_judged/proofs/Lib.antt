mod First
mod Breaking
mod Sound
mod Listed
mod Loops
mod Asking
mod Sharing
