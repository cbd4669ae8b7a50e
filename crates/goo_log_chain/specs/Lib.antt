pub mod Rows
pub mod Chain
