pub mod CheckDigit
pub mod Days
pub mod Edges
pub mod Numbers
