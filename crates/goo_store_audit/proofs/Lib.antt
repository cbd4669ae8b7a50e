pub mod Paging
pub mod CountingLemmas
pub mod NetLemmas
