mod EndingLemmas
pub mod RunFacts
