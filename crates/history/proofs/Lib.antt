-- Laws, and the theorems over calls and histories.
pub mod Lawful
pub mod Demand1
pub mod Turns
pub mod Demand3
pub mod Possible
pub mod Interface
pub mod OneVariable
pub mod InterfacePossible
pub mod SingleCalls
pub mod BytesLeft
pub mod FieldsLeft
pub mod FreeSpace
pub mod ShownFigures
pub mod WorkedHistory
