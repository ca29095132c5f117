pub mod Past
pub mod Stand
pub mod Strokes
pub mod Modules
pub mod Compiled
