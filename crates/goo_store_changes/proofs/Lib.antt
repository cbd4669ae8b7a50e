pub mod Endings
pub mod Replacing
pub mod Pairing
