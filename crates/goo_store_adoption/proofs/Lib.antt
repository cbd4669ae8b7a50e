pub mod Adopted
pub mod Steps
pub mod Words
