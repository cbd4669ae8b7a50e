pub mod Contents
pub mod Body
pub mod Text
pub mod Read
pub mod Tokens
