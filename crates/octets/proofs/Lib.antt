-- Laws that this crate's proofs and the crates above cite.
pub mod Bools
pub mod LowFirst
pub mod Numbers
pub mod Splice
