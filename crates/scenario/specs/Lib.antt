-- What a reader of this crate must believe: definitions only. Theorems about them stand in proofs/. What each kind allows is in crate kinds.
pub mod Faults
pub mod Decoding
