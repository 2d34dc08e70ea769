mod Readings
mod Faultless
mod Filled
mod Asked
mod Taken
