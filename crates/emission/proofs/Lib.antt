-- Laws and theorems of this crate.
pub mod Accepted
pub mod InRanges
pub mod Cases
pub mod Positive
pub mod FigureSize
pub mod Demand2
pub mod Examples
pub mod Routes
pub mod Bounds
