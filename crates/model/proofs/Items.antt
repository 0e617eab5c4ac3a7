-- The laws of `specs/invariant/Items.antt`: items counted one after the other, and the segments of stored packets.
-- Assumes nothing.
use Prim.Native.Nat.{ℕ, ◌+◌, ◌≤◌}
use native.Mathlib.Omega.{arith}
use mathlib.Core.List.{List, [], ◌∷◌, ◌++◌, append_assoc}
use mathlib.Core.Path.{◌≡◌, refl, ap}
use Rattle.octets.specs.Octets.{Octets}
use Rattle.packets.specs.Segments.{Segment}
use Rattle.wires.specs.Meaning.{meaning}
use Rattle.model.specs.calls.Consume.{segment_in}
use Rattle.model.specs.invariant.Items.{Item, carry, credit, opened, closed, store_segs, up_segs, up_credits, up_returned}
use Rattle.model.specs.invariant.Link.{AllOpened}

-- ---- items counted

pub up_segs_append : (a b : List Item) → up_segs (a ++ b) ≡ up_segs a ++ up_segs b
up_segs_append [] b = refl
up_segs_append (carry x ∷ a) b = ap (λ (ss : List Segment). x.segment ∷ ss) (up_segs_append a b)
up_segs_append (credit n ∷ a) b = up_segs_append a b
up_segs_append (opened t ∷ a) b = up_segs_append a b
up_segs_append (closed ∷ a) b = up_segs_append a b

pub up_credits_append : (a b : List Item) → up_credits (a ++ b) ≡ up_credits a + up_credits b
up_credits_append [] b = omega arith
up_credits_append (carry x ∷ a) b = omega (arith, up_credits_append a b)
up_credits_append (credit n ∷ a) b = omega (arith, up_credits_append a b)
up_credits_append (opened t ∷ a) b = omega (arith, up_credits_append a b)
up_credits_append (closed ∷ a) b = up_credits_append a b

pub up_returned_append : (a b : List Item) → up_returned (a ++ b) ≡ up_returned a + up_returned b
up_returned_append [] b = omega arith
up_returned_append (carry x ∷ a) b = omega (arith, up_returned_append a b)
up_returned_append (credit n ∷ a) b = omega (arith, up_returned_append a b)
up_returned_append (opened t ∷ a) b = up_returned_append a b
up_returned_append (closed ∷ a) b = up_returned_append a b

pub returned_le : (u : List Item) → up_returned u ≤ up_credits u
returned_le [] = omega arith
returned_le (carry x ∷ u) = omega (arith, returned_le u)
returned_le (credit n ∷ u) = omega (arith, returned_le u)
returned_le (opened t ∷ u) = omega (arith, returned_le u)
returned_le (closed ∷ u) = returned_le u

pub opened_append : (g : ℕ) (a b : List Item) → AllOpened g a → AllOpened g b → AllOpened g (a ++ b)
opened_append g [] b p q = q
opened_append g (carry x ∷ a) b p q = opened_append g a b p q
opened_append g (credit n ∷ a) b p q = opened_append g a b p q
opened_append g (opened t ∷ a) b p q = (p.0, opened_append g a b p.1 q)
opened_append g (closed ∷ a) b p q = opened_append g a b p q

-- ---- stored packets

pub store_first : (p : Octets) (rest : List Octets) (x : Segment) → segment_in (meaning p) ≡ x ∷ [] → store_segs (p ∷ rest) ≡ x ∷ store_segs rest
unfolding store_segs
store_first p rest x e = rw e

pub store_last : (ps : List Octets) (p : Octets) (x : Segment) → segment_in (meaning p) ≡ x ∷ [] → store_segs (ps ++ (p ∷ [])) ≡ store_segs ps ++ (x ∷ [])
unfolding store_segs
store_last [] p x e = rw e
store_last (q ∷ ps) p x e = rw (store_last ps p x e, append_assoc)
