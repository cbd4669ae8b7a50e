pub mod Files
pub mod DurableLemmas
pub mod Finding
