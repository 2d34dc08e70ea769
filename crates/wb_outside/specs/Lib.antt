pub mod Outside
pub mod MemShelf
pub mod MemSink
pub mod StdSink
