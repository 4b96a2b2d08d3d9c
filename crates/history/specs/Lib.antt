-- What a reader of this crate must believe: definitions only. The theorems stand in proofs/: Demand1, Demand3, Possible, Interface, InterfacePossible,
-- OneVariable, SingleCalls, BytesLeft, FieldsLeft, FreeSpace, ShownFigures, WorkedHistory.
pub mod Ledger
pub mod Seen
pub mod Calls
pub mod History
pub mod Interface
pub mod WorkedHistory
