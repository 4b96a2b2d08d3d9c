-- Laws that this program's proofs cite.
mod WordLaws
mod FieldLaws
mod CallLaws
mod Example
