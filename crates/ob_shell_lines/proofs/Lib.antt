mod Words
mod Split
mod Limits
mod Names
