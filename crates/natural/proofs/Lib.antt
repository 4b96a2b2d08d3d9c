-- Laws that this crate's proofs and the crates above cite.
pub mod Carry
pub mod Division
pub mod Ceiling
