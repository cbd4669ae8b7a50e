pub mod Layout
pub mod Reading
pub mod Shown
pub mod Found
pub mod Forms
pub mod Foreign
