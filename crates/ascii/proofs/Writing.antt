-- Texts written one after another.
-- Assumes nothing.
use Prim.Native.Nat.{ℕ, zero, suc, ◌+◌, ◌-◌, ◌≤◌, min}
use mathlib.Core.Path.{◌≡◌, refl, sym, ap, subst, ◌∙◌}
use mathlib.Core.List.{[], ◌∷◌, ◌++◌}
use native.Mathlib.Nat.{le_of_suc-le-suc, not-suc-le-zero}
use native.Mathlib.Omega.{arith}
use native.Mathlib.Decide.{dec_le}
use lib.ListN.{length, take, drop, length-append, length-take, take-append-drop}
use lib.Seq.{length-take-le, take_all, take-append-add}
use Rattle.std.proofs.lemmas.List.{take_min}
use Rattle.octets.specs.Octets.{Octets, cut, over, splice}
use Rattle.octets.proofs.Octets.{splice_nil, splice_next, length_splice, cut_grown}
use Rattle.ascii.specs.Writing.{Wrote}

-- nothing is written
pub wrote_nothing : (b : Octets) (at : ℕ) → at ≤ length b → Wrote b at [] at b
wrote_nothing b at h = record { octets = sym (splice_nil b at); next = omega arith; room = h }

-- the same text
pub wrote_text : {l m : Octets} {at n : ℕ} {s t : Octets} → s ≡ t → Wrote l at s n m → Wrote l at t n m
wrote_text {l} {m} {at} {n} e w = subst (λ (x : Octets). Wrote l at x n m) e w

-- the buffer keeps its length
pub wrote_length : {l m : Octets} {at n : ℕ} {s : Octets} → Wrote l at s n m → length m ≡ length l
wrote_length {l} {m} {at} {n} {s} w = ap length w.octets ∙ length_splice l at s

-- past the end there is no room
splice_past : (l v : Octets) → splice l (length l) v ≡ l
unfolding splice over
splice_past [] v = refl
splice_past (x ∷ l) v = ap (λ (t : Octets). x ∷ t) (splice_past l v)

over_full : (l a b : Octets) → length l ≤ length a → over l (a ++ b) ≡ over l a
unfolding over
over_full [] a b h = refl
over_full (x ∷ l) [] b h = absurd (not-suc-le-zero h)
over_full (x ∷ l) (y ∷ a) b h = ap (λ (t : Octets). y ∷ t) (over_full l a b (le_of_suc-le-suc h))

-- what follows a text that fills the buffer is left out
splice_full : (l : Octets) (at : ℕ) (a b : Octets) → length l ≤ at + length a → splice l at (a ++ b) ≡ splice l at a
unfolding splice
splice_full l zero a b h = over_full l a b (omega arith)
splice_full [] (suc n) a b h = refl
splice_full (x ∷ l) (suc n) a b h = ap (λ (t : Octets). x ∷ t) (splice_full l n a b (omega arith))

-- as much of a text as there is room for
splice_fitting : (l v : Octets) (at n : ℕ) → n ≡ min (length v) (length l - at) → splice l at (take n v) ≡ splice l at v
splice_fitting l v at n e = go (dec_le (length v) n)
  where
    go : Dec (length v ≤ n) → splice l at (take n v) ≡ splice l at v
    go (yes h) = ap (splice l at) (take_all n v h)
    go (no h) =
        let long : length (take n v) ≡ n = length-take-le n v (omega arith) in
        sym (splice_full l at (take n v) (drop n v) (omega arith)) ∙ ap (splice l at) (take-append-drop n v)

pub wrote_fitting : (l v m : Octets) (at n : ℕ) → at ≤ length l → n ≡ min (length v) (length l - at) → m ≡ splice l at (take n v) → Wrote l at v (at + n) m
wrote_fitting l v m at n h e k =
    let same : length m ≡ length l = ap length k ∙ length_splice l at (take n v) in
    record {
      octets = k ∙ splice_fitting l v at n e;
      next = omega arith;
      room = omega arith;
    }

-- a text and then another
pub wrote_then : {l m k : Octets} {at n e : ℕ} (s t : Octets) → Wrote l at s n m → Wrote m n t e k → Wrote l at (s ++ t) e k
wrote_then {l} {m} {k} {at} {n} {e} s t w v = go (dec_le (at + length s) (length l))
  where
    same : length m ≡ length l
    same = wrote_length w

    long : length (s ++ t) ≡ length s + length t
    long = length-append s t

    end : e ≡ min (at + length (s ++ t)) (length l)
    end = omega (arith, w.next, v.next, same, long)

    go : Dec (at + length s ≤ length l) → Wrote l at (s ++ t) e k
    go (yes h) =
        let there : n ≡ at + length s = omega (arith, w.next) in
        record {
          octets = v.octets ∙ (λ i. splice (w.octets i) (there i) t) ∙ splice_next l at s t;
          next = end;
          room = v.room;
        }
    go (no h) =
        let there : n ≡ length (splice l at s) = omega (arith, w.next, length_splice l at s) in
        record {
          octets =
              v.octets
              ∙ (λ i. splice (w.octets i) (there i) t)
              ∙ splice_past (splice l at s) t
              ∙ sym (splice_full l at s t (omega arith));
          next = end;
          room = v.room;
        }

-- what stands before the end of a text that was written, as far as there is room
pub wrote_front : {l m : Octets} {at n : ℕ} {t : Octets} → at ≤ length l → Wrote l at t n m → take n m ≡ take (length l) (take at l ++ t)
unfolding cut
wrote_front {l} {m} {at} {n} {t} h w =
    let room = length l - at in
    let k = min (length t) room in
    let start : at ≡ 0 + at = omega arith in
    let least : k ≡ min room (length t) = omega arith in
    let fitting = length-take k t in
    let front : length (take at l) ≡ at = length-take-le at l h in
    let end : n ≡ at + length (take k t) = omega (arith, w.next) in
    let all : length l ≡ length (take at l) + room = omega arith in
    (λ i. take (end i) ((w.octets ∙ sym (splice_fitting l t at k refl)) i))
    ∙ (λ i. take (at + length (take k t)) (splice l (start i) (take k t)))
    ∙ cut_grown l 0 at (take k t) (omega arith)
    ∙ (λ i. take at l ++ (ap (λ (j : ℕ). take j t) least ∙ take_min room t) i)
    ∙ sym (take-append-add (take at l) t room)
    ∙ ap (λ (j : ℕ). take j (take at l ++ t)) (sym all)
