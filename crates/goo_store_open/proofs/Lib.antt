pub mod Both
pub mod Carrying
pub mod Chaining
pub mod Earning
pub mod OnFiles
pub mod Selecting
pub mod Judging
