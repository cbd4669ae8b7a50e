pub mod Served
mod Begun
mod DurableLemmas
