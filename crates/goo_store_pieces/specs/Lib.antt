pub mod Found
pub mod Ahead
pub mod Caching
pub mod Reading
pub mod Near
pub mod NextRows
