pub mod Counting
pub mod NetCounting
pub mod Summing
