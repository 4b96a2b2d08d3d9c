-- Laws of exact values, of chains and of products in limbs.
pub mod Ratios
pub mod Chains
pub mod Limbs
pub mod Starts
