-- What a reader of this crate must believe, in the order of paper 01: definitions only. Theorems about them stand in proofs/.
pub mod Conditions
pub mod Offers
pub mod Answers
pub mod Archive
pub mod Left
