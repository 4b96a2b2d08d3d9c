-- What the functions of this program return, and the fields that they leave: definitions only.
pub mod Words
pub mod Numbers
pub mod Fields
pub mod Calls
