-- Laws that this crate's proofs and the crates above cite.
pub mod Exact
pub mod Order
