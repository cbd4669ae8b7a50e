pub mod CreationBlamed
pub mod FirstTables
pub mod HeldLemmas
pub mod Reopened
pub mod FirstRenewed
