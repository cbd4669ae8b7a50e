pub mod Moments
pub mod Holding
pub mod StoreFaults
pub mod Opening
