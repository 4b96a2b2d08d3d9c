-- Exact values and chains of factors: what an equation is written in.
pub mod Ratio
pub mod Chain
pub mod Ranges
pub mod Held
