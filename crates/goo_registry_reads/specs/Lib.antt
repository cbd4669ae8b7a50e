pub mod Access
pub mod AccountReads
