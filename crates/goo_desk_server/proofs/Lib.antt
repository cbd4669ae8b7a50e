mod ConnectionFacts
mod ConnectionPromiseFacts
mod ConnectingFacts
pub mod Connecting
pub mod Running
