pub mod Durable
pub mod Openings
pub mod Closings
pub mod Refusals
pub mod Finds
pub mod Bytes
