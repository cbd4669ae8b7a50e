pub mod Whole
pub mod Declared
mod Example
