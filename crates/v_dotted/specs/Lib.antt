pub mod Dotted
