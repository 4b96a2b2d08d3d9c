-- What was read stands at the start of the buffer, and so does what is read next behind it.
use Rattle.std.proofs.Common.{◌≡◌, ℕ, ◌+◌, ◌≤◌, List, ◌++◌, rules, length, take, drop, sym, ap, ◌∙◌, subst, le_refl, drop_at, length-take-le}
use Rattle.std.proofs.lemmas.Slice.{take-put_mid_below}
use Rattle.std.proofs.KnownBytes.{Consumes-trans}
use Rattle.std.specs.Io.KnownBytes.{Consumes}
use borrow.Rule.Slice.PartMut.{put_mid, post_of}
use lib.Seq.{take-add, take-append-le}
use Rattle.list.proofs.read_full.Goals as goal

behind : (n m k : ℕ) (b v : List ℕ) → n ≤ length b → k ≤ length v → take (n + k) (put_mid n m b v) ≡ take n b ++ take k v
behind n m k b v h f =
    take-add n k (put_mid n m b v)
    ∙ ap (λ l. l ++ take k (drop n (put_mid n m b v))) (take-put_mid_below n m b v n (le_refl n) h)
    ∙ ap (λ l. take n b ++ take k l) (drop_at (take n b) (v ++ post_of n m b) n (length-take-le n b h))
    ∙ ap (λ l. take n b ++ l) (take-append-le k v (post_of n m b) f)

pub loop-n-preserved : goal.loop-n-preserved
loop-n-preserved g c =
    let h = c.loop-n.invariant.0 in
    let f = c.in_ok-more.ensures.bound.0 in
    (search rules, search rules, subst (Consumes _ _) (sym (behind _ _ _ _ _ h f)) (Consumes-trans _ _ _ _ _ c.loop-n.invariant.2 c.in_ok-more.ensures.bytes.0))
