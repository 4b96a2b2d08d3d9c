-- The two sinks keep the laws: what the code gives as `laws`.
use mathlib.Core.Path.{ap, refl}
use Prim.Native.Nat.{ℕ}
use native.Mathlib.Nat.{add-zero, add_assoc}
use native.Mathlib.Omega.{arith}
use lib.ListN.{length-append}
use Rattle.octets.proofs.Splice.{splice_nil, splice_splice, length_splice}
use Rattle.listing.specs.declared.sink.Count.{Count}
use Rattle.listing.specs.Sink.{SinkLaws, counted, count_takes, written, buffer_takes}

count_of : ℕ → Count
count_of n = record { bytes = n }

pub count_laws : SinkLaws counted count_takes
unfolding count_of
count_laws = record {
  nothing = λ s. rw add-zero refl;
  behind = λ s x y h. ap count_of (omega (arith, length-append x y));
  fewer = λ s m n h t. omega arith;
  others = λ s x n t. omega arith;
}

pub buffer_laws : SinkLaws written buffer_takes
buffer_laws = record {
  nothing = λ s. rw (splice_nil, add-zero) refl;
  behind = λ s x y h. rw (splice_splice s.out.now s.at x y h, length-append, add_assoc) refl;
  fewer = λ s m n h t. omega arith;
  others = λ s x n t. omega (arith, length_splice s.out.now s.at x (omega arith));
}
