mod Objects
mod Readings
