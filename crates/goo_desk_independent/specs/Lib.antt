pub mod Asking
pub mod Account
pub mod Holder
