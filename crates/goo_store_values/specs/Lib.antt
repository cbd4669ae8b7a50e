pub mod Passing
pub mod Reading
pub mod Plants
pub mod Telling
