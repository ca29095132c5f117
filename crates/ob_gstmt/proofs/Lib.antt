pub mod StmtPuts
pub mod Stored
