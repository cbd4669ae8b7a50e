pub mod WellKept
pub mod Lots
pub mod Keeping
pub mod Summing
pub mod Correcting
pub mod Production
pub mod Rules
