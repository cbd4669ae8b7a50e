pub mod Settings
pub mod Endings
pub mod Runs
