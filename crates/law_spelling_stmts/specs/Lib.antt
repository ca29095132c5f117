pub mod Fits
pub mod Laws
-- The law of statements of modules that are read.
pub mod FitLaws
