pub mod Accounts
pub mod BookFault
pub mod Change
pub mod Edit
pub mod BookRows
pub mod Paging
pub mod Sparing
