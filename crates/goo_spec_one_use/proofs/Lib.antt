pub mod Staying
pub mod Cancelling
pub mod Worlds
