-- Laws of this crate.
pub mod Quantities
pub mod Chains
pub mod Multiplied
pub mod Tables
pub mod Examples
