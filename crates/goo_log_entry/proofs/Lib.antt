mod Plain
mod Written
mod Found
mod ReadBack
pub mod Differ
