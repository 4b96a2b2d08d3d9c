-- Laws that this crate's proofs and the crates above cite, and theorems on refusals and cases.
pub mod Refusals
pub mod Numbers
pub mod KindTable
pub mod UsageTable
pub mod Six
pub mod Limits
pub mod FieldRanges
pub mod QuantityRanges
pub mod Ranges
pub mod Sum
pub mod Edges
pub mod ReadBack
