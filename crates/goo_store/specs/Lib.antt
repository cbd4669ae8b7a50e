pub mod Preparing
pub mod Gathering
pub mod Seen
pub mod Opened
