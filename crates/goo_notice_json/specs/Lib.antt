pub mod Faults
pub mod Members
pub mod Fields
pub mod LotMembers
pub mod Lot
pub mod Parts
pub mod Json
