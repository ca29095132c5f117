-- The lemmas, for laws to cite.
pub mod Lists
