pub mod ArgumentLaws
pub mod JudgedLaws
pub mod RoundLaws
pub mod RowLaws
