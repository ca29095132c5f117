pub mod StmtViews
pub mod Steps
pub mod Assignments
pub mod CallLaws
