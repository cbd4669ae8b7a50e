pub mod Endings
pub mod Declaring
pub mod Progress
