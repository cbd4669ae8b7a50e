pub mod Stops
pub mod Verdicts
