pub mod Selecting
pub mod Telling
pub mod Quieting
pub mod Resting
pub mod Rows
pub mod Written
