-- Laws that this crate's proofs and the crates above cite.
pub mod Steps
pub mod Value
pub mod Held
pub mod Parts
