pub mod RowsRead
pub mod Unread
