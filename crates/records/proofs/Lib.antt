-- Laws that this crate's proofs and the crates above cite.
pub mod Writing
pub mod RecordLaws
pub mod Trailer
pub mod LinesFrom
pub mod SameFiling
pub mod Order
pub mod WorstScan
pub mod HeldLine
pub mod WorstLine
pub mod Covering
pub mod FieldTable
pub mod FieldsWritten
pub mod Holding
pub mod TrailerBytes
