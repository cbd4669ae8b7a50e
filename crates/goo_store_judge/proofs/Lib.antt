pub mod Looking
pub mod Blaming
pub mod Judging
