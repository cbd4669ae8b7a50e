pub mod Numbers
pub mod Parsing
