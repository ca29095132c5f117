pub mod Encircled
