pub mod LinesOn
pub mod TablesOn
pub mod Twice
