pub mod DevicePieces
pub mod NetRows
