-- Laws of sinks: of bytes z for a sink s, some are put, which made t, and w are left. That the two sinks keep theirs is in specs/SinkLaws.
--   Left, all_left               there is room for w, and w behind what is put makes z
--   first_fits, others_left      of w, x comes first and y behind it: there is room for x, and then y is left
--   last_fits, all_put           all that is left is put
--   none_left                    nothing is left
use mathlib.Core.Path.{◌≡◌, refl, sym, ◌∙◌}
use mathlib.Core.List.{List, [], ◌++◌}
use Prim.Native.Nat.{ℕ, ◌+◌}
use native.Mathlib.Nat.{zero-add}
use native.Mathlib.Omega.{arith}
use lib.ListN.{length, length-append}
use Rattle.octets.specs.Bytes.{splice}
use Rattle.listing.specs.declared.sink.Buffer.{Buffer}
use Rattle.listing.specs.Sink.{SinkLaws, written}

pub record Left {S : Type 0} (after : S → List ℕ → S) (takes : S → ℕ → Type 0) (s t : S) (z w : List ℕ) : Type 0 where
  pub room : takes t (length w)
  pub makes : after t w ≡ after s z

module _ {S : Type 0} {after : S → List ℕ → S} {takes : S → ℕ → Type 0} (laws : SinkLaws after takes) where
  pub all_left : (s : S) (z : List ℕ) → takes s (length z) → Left after takes s s z z
  all_left s z h = record { room = h; makes = refl }

  module _ {s t : S} {z w : List ℕ} (l : Left after takes s t z w) where
    pub none_left : w ≡ [] → t ≡ after s z
    none_left e = sym (laws.nothing t) ∙ (rw e at l.makes)

    pub last_fits : {x : List ℕ} → w ≡ x → takes t (length x)
    last_fits e = rw e at l.room

    pub all_put : {x : List ℕ} {u : S} → w ≡ x → u ≡ after t x → u ≡ after s z
    all_put e f = f ∙ (rw e at l.makes)

    room : (x y : List ℕ) → w ≡ x ++ y → takes t (length x + length y)
    room x y e = rw (e, length-append) at l.room

    pub first_fits : (x y : List ℕ) → w ≡ x ++ y → takes t (length x)
    first_fits x y e = laws.fewer t (length x) (length x + length y) (omega arith) (room x y e)

    pub others_left : (x y : List ℕ) {u : S} → w ≡ x ++ y → u ≡ after t x → Left after takes s u z y
    others_left x y e f = record {
      room = rw f (laws.others t x (length y) (room x y e));
      makes = rw f (laws.behind t x y (room x y e)) ∙ (rw e at l.makes);
    }

-- what a lent buffer holds that text was written to from its start on
pub record WrittenFromStart (b t : Buffer) (text : List ℕ) : Type 0 where
  pub at_is : t.at ≡ length text
  pub same_reference : b.out.ghost_name ≡ t.out.ghost_name
  pub bytes_are : t.out.now ≡ splice b.out.now 0 text

pub written_from_start : {b t : Buffer} (text : List ℕ) → t ≡ written b text → b.at ≡ 0 → WrittenFromStart b t text
written_from_start text e z = rw (e, z) (record { at_is = zero-add (length text); same_reference = refl; bytes_are = refl })
