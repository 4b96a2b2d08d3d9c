-- Laws that this crate's proofs and the crates above cite, and what an accepted case says.
pub mod Faults
pub mod Decoding
pub mod Said
