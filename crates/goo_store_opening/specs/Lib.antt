pub mod Creating
pub mod FirstTables
pub mod Versions
pub mod UpToDate
