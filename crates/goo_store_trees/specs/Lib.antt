pub mod Less
pub mod Settled
pub mod JustOpened
