pub mod ContentsLaws
pub mod Declaring
pub mod Growing
pub mod OrderLaws
pub mod BookJoins
pub mod ImportLaws
