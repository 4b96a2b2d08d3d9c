-- How many limbs the first part of a slice has, and a slice whose first part was worked on: with these named on a crate, the search
-- finds that a part taken of a slice lies within it.
use lib.Seq.{length-take-le, length_front}

pub ruleset parts = (length-take-le, length_front)
