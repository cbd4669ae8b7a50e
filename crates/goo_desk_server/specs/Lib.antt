pub mod ConnectionFaults
pub mod Reading
pub mod ConnectionServed
pub mod ConnectionEnds
pub mod Connects
pub mod Serving
pub mod Runs
