pub mod Hashes
pub mod Place
pub mod Read
