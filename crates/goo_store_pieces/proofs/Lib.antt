pub mod Merging
pub mod Caching
pub mod Found
pub mod RowsRead
pub mod Next
pub mod Edges
pub mod Pages
