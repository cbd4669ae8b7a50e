pub mod Durable
pub mod ServerEndings
pub mod ServesConnections
