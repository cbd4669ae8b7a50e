mod MakingLemmas
mod MemoryLemmas
mod WorkLemmas
