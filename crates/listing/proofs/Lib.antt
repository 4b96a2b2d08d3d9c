-- Laws that this crate's proofs and the crates above cite, and what it asks of a caller.
pub mod Digits
pub mod OnlyDecimal
pub mod DecimalText
pub mod Stores
pub mod Sinks
pub mod Columns
pub mod RecordLines
pub mod Whole
pub mod Printed
pub mod Example
pub mod AsksNothing
