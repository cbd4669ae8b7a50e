pub mod DigitsOf
pub mod MonthLemmas
pub mod SumLemmas
pub mod WeightLemmas
