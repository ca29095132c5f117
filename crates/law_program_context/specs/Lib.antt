pub mod Left
pub mod Laws
pub mod ShownLaws
pub mod Judged
pub mod JudgedLaws
