-- What `print` answers in numbers and what it leaves of the buffer, in plain terms: `print_exactly`. Where the buffer is long enough, as many bytes as are told are
-- the listing, and every other one is as it was; where it is too short, none are told and none is written.
use mathlib.Core.Path.{◌≡◌, refl}
use mathlib.Core.List.{List}
use Prim.Native.Nat.{ℕ, ◌≤◌, ◌<◌}
use native.Mathlib.Omega.{arith}
use borrow.Author.Tests.{le-leb, lt-leb}
use lib.ListN.{length, get_or, take}
use Rattle.octets.proofs.Splice.{length_splice, splice_read, splice_behind}
use Rattle.listing.specs.Listing.{listing_of, lengths, listed_bytes}

pub print_exactly : (b o : List ℕ)
    → let l = listing_of b in
    let n = (lengths b (length o)).written in
    let p = listed_bytes b o in
    ((lengths b (length o)).needed ≡ length l)
    × (length l ≤ length o → (n ≡ length l) × (take n p ≡ l) × (length p ≡ length o) × ((i : ℕ) → n ≤ i → get_or p i 0 ≡ get_or o i 0))
    × (length o < length l → (n ≡ 0) × (p ≡ o))
unfolding lengths listed_bytes
print_exactly b o =
    let l = listing_of b in (
      refl,
      λ (h : length l ≤ length o). rw (le-leb (length l) (length o) h) (refl, splice_read o 0 l (omega arith), length_splice o 0 l (omega arith), λ i (k : length l ≤ i). splice_behind o 0 l (omega arith) i (omega arith)),
      λ (h : length o < length l). rw (lt-leb (length l) (length o) h) (refl, refl),
    )
