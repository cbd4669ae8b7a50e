pub mod Change
pub mod Joining
pub mod Touching
pub mod Walk
