-- Laws that this crate's proofs cite.
pub mod Product
pub mod RoundedUp
