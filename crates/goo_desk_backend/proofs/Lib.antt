pub mod CertificateLemmas
pub mod ShowFacts
pub mod ImportFacts
pub mod OneShown
pub mod TableFacts
pub mod DurableFacts
