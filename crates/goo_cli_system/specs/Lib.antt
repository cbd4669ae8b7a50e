pub mod Deeds
pub mod Uses
pub mod Performs
