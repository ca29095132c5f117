mod Build
pub mod Least
pub mod BookLaws
pub mod RowLaws
pub mod RuleLaws
