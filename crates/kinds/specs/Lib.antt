-- What a reader of this crate must believe, in the order of paper 01: definitions only. Theorems about them stand in proofs/.
pub mod Refusal
pub mod Number
pub mod Polymers
pub mod Case
pub mod Patterns
pub mod Ranges
pub mod Builder
pub mod Edges
