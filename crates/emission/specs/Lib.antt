-- What a reader of this crate must believe: definitions only. Theorems about them stand in proofs/.
-- The tables and the eight equations are crate equations' (`Rows`, `Equations`), exact values and chains crate product's.
pub mod Figures
pub mod WorkedExamples
pub mod Called
