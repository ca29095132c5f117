mod Places
mod Shared
mod Opens
mod Deeper
mod Stops
mod Modules
