pub mod Changing
pub mod Rulings
pub mod Transferring
pub mod Cancelling
pub mod Numbering
pub mod Expiring
pub mod Withdrawing
pub mod AccountRuns
mod ExampleRuns
pub mod Stopping
