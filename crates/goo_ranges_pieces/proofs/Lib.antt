pub mod Changing
pub mod Covers
pub mod Find
pub mod Joining
pub mod Rest
pub mod Rising
pub mod Touching
