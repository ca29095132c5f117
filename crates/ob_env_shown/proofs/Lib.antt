mod Blanks
mod Rows
