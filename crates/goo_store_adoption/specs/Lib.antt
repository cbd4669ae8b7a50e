pub mod Judged
pub mod Taken
pub mod Refused
