-- Where the bytes of a listing go: what a sink is after some of them, and how many more it takes.
use Rattle.std.specs.Prelude.{◌≡◌, List, [], ◌++◌, ℕ, ◌+◌, ◌^◌, ◌≤◌, ◌<◌, length}
use Rattle.octets.specs.Bytes.{splice}
use Rattle.listing.specs.declared.sink.Count.{Count}
use Rattle.listing.specs.declared.sink.Buffer.{Buffer}

-- What holds of a sink: no bytes change nothing, bytes behind others are all of them; where there is room for many, there is for fewer, and behind
-- the first of them for the others.
pub record SinkLaws {S : Type 0} (after : S → List ℕ → S) (takes : S → ℕ → Type 0) : Type 0 where
  pub nothing : (s : S) → after s [] ≡ s
  pub behind : (s : S) (x y : List ℕ) → takes s (length x + length y) → after (after s x) y ≡ after s (x ++ y)
  pub fewer : (s : S) (m n : ℕ) → m ≤ n → takes s n → takes s m
  pub others : (s : S) (x : List ℕ) (n : ℕ) → takes s (length x + n) → takes (after s x) n

-- ── counted

abbrev pub counted : Count → List ℕ → Count
counted c text = record { bytes = c.bytes + length text }

abbrev pub count_takes : Count → ℕ → Type 0
count_takes c n = c.bytes + n < 2 ^ 64

-- ── written into a lent buffer

abbrev pub written : Buffer → List ℕ → Buffer
written b text = record { out = record b.out { now = splice b.out.now b.at text }; at = b.at + length text }

abbrev pub buffer_takes : Buffer → ℕ → Type 0
buffer_takes b n = b.at + n ≤ length b.out.now
