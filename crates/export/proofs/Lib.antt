-- Laws that this crate's proofs and the crates above cite.
pub mod Loads
pub mod EachLoad
pub mod Examples
pub mod Calls
