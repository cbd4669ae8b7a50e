pub mod Works
pub mod MemoryWorks
