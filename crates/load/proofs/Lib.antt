-- Laws that this crate's proofs and the crates above cite, and what it asks of a caller.
pub mod Shifted
pub mod Value
pub mod Least
pub mod Smallest
pub mod Micrograms
pub mod Examples
pub mod AsksNothing
