pub mod NearLemmas
pub mod PageLemmas
pub mod OrderLemmas
pub mod CutLemmas
