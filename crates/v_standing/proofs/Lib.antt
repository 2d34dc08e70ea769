mod Tables
mod Adding
mod Whole
mod Numbered
