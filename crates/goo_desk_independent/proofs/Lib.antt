pub mod Responding
pub mod Accounts
pub mod Holders
