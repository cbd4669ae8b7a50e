pub mod Certificates
pub mod Backends
pub mod Durable
pub mod Results
pub mod Showing
pub mod Tables
