pub mod Values
pub mod Verbs
pub mod Options
pub mod Asked
pub mod Readings
pub mod Line
pub mod Faults
