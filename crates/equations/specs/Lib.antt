-- What a reader of this crate must believe, in the order of paper 01: definitions only. Theorems about them stand in proofs/.
-- Exact values, factors and chains are crate product's (`Ratio`, `Chain`).
pub mod Rows
pub mod Equations
pub mod Ranges
pub mod Emissions
pub mod Constants
pub mod RowExamples
