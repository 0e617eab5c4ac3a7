-- Parts of lists of octets, and lists of octets written over by octets, are lists of octets.
-- Assumes nothing.
use Prim.Native.Nat.{ℕ, zero, suc, ◌≤◌}
use native.Mathlib.Omega.{arith}
use mathlib.Core.List.{[], ◌∷◌, ◌++◌}
use lib.ListN.{get_or, take, drop}
use Rattle.octets.specs.Octets.{Octets, cut, over, splice}
use Rattle.octets.specs.Octal.{Octal, octal_nil, octal_cons}

pub octal_at : {l : Octets} → Octal l → (i : ℕ) → get_or l i 0 ≤ 255
octal_at octal_nil i = omega arith
octal_at (octal_cons h t) zero = h
octal_at (octal_cons h t) (suc i) = octal_at t i

pub octal_append : {l m : Octets} → Octal l → Octal m → Octal (l ++ m)
octal_append octal_nil k = k
octal_append (octal_cons h t) k = octal_cons h (octal_append t k)

-- and each part of such a list
pub octal_left : (l m : Octets) → Octal (l ++ m) → Octal l
octal_left [] m h = octal_nil
octal_left (x ∷ l) m (octal_cons h t) = octal_cons h (octal_left l m t)

pub octal_right : (l m : Octets) → Octal (l ++ m) → Octal m
octal_right [] m h = h
octal_right (x ∷ l) m (octal_cons h t) = octal_right l m t

octal_take : (n : ℕ) {l : Octets} → Octal l → Octal (take n l)
octal_take zero h = octal_nil
octal_take (suc n) octal_nil = octal_nil
octal_take (suc n) (octal_cons h t) = octal_cons h (octal_take n t)

pub octal_drop : (n : ℕ) {l : Octets} → Octal l → Octal (drop n l)
octal_drop zero h = h
octal_drop (suc n) octal_nil = octal_nil
octal_drop (suc n) (octal_cons h t) = octal_drop n t

pub octal_cut : (at n : ℕ) {l : Octets} → Octal l → Octal (cut at n l)
unfolding cut
octal_cut at n h = octal_take n (octal_drop at h)

octal_over : {l v : Octets} → Octal l → Octal v → Octal (over l v)
unfolding over
octal_over octal_nil k = octal_nil
octal_over (octal_cons h t) octal_nil = octal_cons h t
octal_over (octal_cons h t) (octal_cons k u) = octal_cons k (octal_over t u)

pub octal_splice : {l : Octets} (at : ℕ) {v : Octets} → Octal l → Octal v → Octal (splice l at v)
unfolding splice
octal_splice zero h k = octal_over h k
octal_splice (suc n) octal_nil k = octal_nil
octal_splice (suc n) (octal_cons h t) k = octal_cons h (octal_splice n t k)
