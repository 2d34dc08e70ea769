mod Earlier
mod Breadth
mod Directions
mod Refusals
mod Walks
