mod Trees
mod Marked
mod Whole
mod Declared
mod Leading
mod Told
mod Turning
