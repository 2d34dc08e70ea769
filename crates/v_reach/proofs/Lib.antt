mod Local
mod Visiting
mod Spreading
mod Counting
mod Answering
