pub mod Deeds
pub mod Fresh
