-- What a reader of this crate must believe: definitions only. Theorems about them stand in proofs/, but for those of SinkLaws, which the code cites.
pub mod Decimal
pub mod Listing
pub mod Sink
pub mod SinkLaws
