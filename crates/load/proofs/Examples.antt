-- `edges_hold`: each load worked by pencil is that of its figure, and its pattern has that value. `load_in_order`: the lowest byte comes first.
use mathlib.Core.Path.{◌≡◌, refl}
use mathlib.Core.List.{[], ◌∷◌, map}
use Prim.Native.Nat.{◌*◌}
use lib.Ieee.{size, span, climb}
use Rattle.natural.specs.Ceiling.{ceiling}
use Rattle.octets.specs.Bytes.{bytes_of}
use Rattle.binary64.specs.Quantity.{whole_at, whole, one}
use Rattle.load.specs.Load.{load_pattern, load_bytes}
use Rattle.load.specs.Edges.{Edge, edges}

pub edges_hold :
    (map (λ (e : Edge). load_pattern e.figure) edges ≡ map (λ (e : Edge). e.pattern) edges)
    × (map (λ (e : Edge). whole e.pattern) edges ≡ map (λ (e : Edge). e.load * one) edges)
unfolding load_pattern size span climb ceiling whole whole_at
edges_hold = (refl, refl)

pub load_in_order :
    (load_bytes 81985529216486895 ≡ 0xdf ∷ 0xbc ∷ 0x9a ∷ 0x78 ∷ 0x56 ∷ 0x34 ∷ 0x72 ∷ 0x43 ∷ [])
    × (load_bytes 0 ≡ 0 ∷ 0 ∷ 0 ∷ 0 ∷ 0 ∷ 0 ∷ 0 ∷ 0 ∷ [])
unfolding load_bytes load_pattern bytes_of size span climb ceiling
load_in_order = (refl, refl)
