pub mod Machine
pub mod Holding
pub mod Schedules
