-- What a name that stands alone is, for the checkers above.
pub mod Alone
pub mod NamedViews
