-- The laws of `specs/Octets.antt`, in the order of its definitions. None has a condition that a caller cannot see in its own numbers.
-- Assumes nothing.
use mathlib.Core.Path.{◌≡◌, refl, sym, ap, ◌∙◌}
use mathlib.Core.List.{[], ◌∷◌, ◌++◌, append_assoc}
use Prim.Native.Nat.{ℕ, zero, suc, ◌+◌, ◌-◌, ◌≤◌, ◌<◌}
use native.Mathlib.Nat.{le_of_suc-le-suc, not-suc-le-zero, zero-add, suc-add, suc_inj, suc-ne-zero, sub-zero, zero-sub, suc-sub-suc}
use native.Mathlib.Omega.{arith}
use lib.ListN.{length, take, drop, set, get_or, length-append, length-take, length-drop, take-append-drop}
use lib.Seq.{take_all, take-take, drop-drop, take-nil, take-add, get_or-take, get_or-drop, ext_get_or}
use borrow.Rule.Slice.PartMut.{put_mid}
use Rattle.std.specs.List.{copy_within}
use Rattle.octets.specs.Octets.{Octets, cut, over, splice}

-- ---- cut

pub length_cut : (at n : ℕ) (l : Octets) → at + n ≤ length l → length (cut at n l) ≡ n
unfolding cut
length_cut at n l h = simp (length-take, length-drop) (omega arith)

-- the part that `&l[at..at + n]` is
pub cut_part : (at n : ℕ) (l : Octets) → take (at + n - at) (drop at l) ≡ cut at n l
unfolding cut
cut_part at n l = let e : at + n - at ≡ n = omega arith in ap (λ (k : ℕ). take k (drop at l)) e

-- one octet of a part
pub octet_cut : (at n : ℕ) (l : Octets) (i : ℕ) → i < n → get_or (cut at n l) i 0 ≡ get_or l (at + i) 0
unfolding cut
octet_cut at n l i h = get_or-take n (drop at l) i 0 h ∙ get_or-drop at l i 0

pub cut_short : (at n : ℕ) (l : Octets) → length (cut at n l) ≤ n
unfolding cut
cut_short at n l = simp (length-take, length-drop) (omega arith)

-- of lists of one length
pub cut_long : (at n : ℕ) (l m : Octets) → length l ≡ length m → length (cut at n l) ≡ length (cut at n m)
unfolding cut
cut_long at n l m e = simp (length-take, length-drop, e)

-- of those that agree on its octets, the part is the same
pub cut_agree : (at n : ℕ) (l m : Octets) → length l ≡ length m → ((i : ℕ) → i < n → get_or l (at + i) 0 ≡ get_or m (at + i) 0) → cut at n l ≡ cut at n m
cut_agree at n l m e h =
    ext_get_or 0 (cut at n l) (cut at n m) (cut_long at n l m e)
    (λ i k. let j : i < n = omega (arith, cut_short at n l) in octet_cut at n l i j ∙ h i j ∙ sym (octet_cut at n m i j))

-- all that is left from index at on
pub cut_rest : (at : ℕ) (l : Octets) → cut at (length l) l ≡ drop at l
unfolding cut
cut_rest at l = take_all (length l) (drop at l) (simp length-drop (omega arith))

take_part : (n k : ℕ) (l : Octets) (i : ℕ) → i + n ≤ k → take n (drop i (take k l)) ≡ take n (drop i l)
take_part n k l zero h = take-take n k l (omega arith)
take_part n zero l (suc i) h = absurd (not-suc-le-zero {n = i + n} (omega arith))
take_part n (suc k) [] (suc i) h = refl
take_part n (suc k) (x ∷ l) (suc i) h = take_part n k l i (omega arith)

-- a part of a part
pub cut_cut : (i n j k : ℕ) (l : Octets) → i + n ≤ k → cut i n (cut j k l) ≡ cut (j + i) n l
unfolding cut
cut_cut i n j k l h = take_part n k (drop j l) i h ∙ ap (take n) (drop-drop i j l)

drop_take : (m n : ℕ) (l : Octets) → drop m (take n l) ≡ take (n - m) (drop m l)
drop_take zero n l = rw (sub-zero n) refl
drop_take (suc m) zero l = rw (zero-sub (suc m)) refl
drop_take (suc m) (suc n) [] = sym (take-nil (suc n - suc m))
drop_take (suc m) (suc n) (x ∷ l) = rw (suc-sub-suc n m) (drop_take m n l)

-- the rest of a part
pub drop_cut : (m at n : ℕ) (l : Octets) → drop m (cut at n l) ≡ cut (at + m) (n - m) l
unfolding cut
drop_cut m at n l = drop_take m n (drop at l) ∙ ap (take (n - m)) (drop-drop m at l)

-- ---- over

length_over : (l vs : Octets) → length (over l vs) ≡ length l
unfolding over
length_over [] vs = refl
length_over (x ∷ l) [] = refl
length_over (x ∷ l) (v ∷ vs) = ap suc (length_over l vs)

over_nil : (l : Octets) → over l [] ≡ l
unfolding over
over_nil [] = refl
over_nil (x ∷ l) = refl

over_more : (l s : Octets) (i : ℕ) → i < length s → i < length l → set (over l (take i s)) i (get_or s i 0) ≡ over l (take (suc i) s)
unfolding over
over_more l [] i h k = absurd (not-suc-le-zero h)
over_more [] (y ∷ s) i h k = absurd (not-suc-le-zero k)
over_more (x ∷ l) (y ∷ s) zero h k = ap (λ (t : Octets). y ∷ t) (sym (over_nil l))
over_more (x ∷ l) (y ∷ s) (suc i) h k = ap (λ (t : Octets). y ∷ t) (over_more l s i (le_of_suc-le-suc h) (le_of_suc-le-suc k))

over_part : (a : Octets) (k : ℕ) (p : Octets) → length p ≤ k → over (take k a) p ++ drop k a ≡ over a p
unfolding over
over_part a zero [] h = sym (over_nil a)
over_part a zero (v ∷ p) h = absurd (not-suc-le-zero h)
over_part [] (suc k) p h = refl
over_part (x ∷ a) (suc k) [] h = ap (λ (t : Octets). x ∷ t) (take-append-drop k a)
over_part (x ∷ a) (suc k) (v ∷ p) h = ap (λ (t : Octets). v ∷ t) (over_part a k p (le_of_suc-le-suc h))

over_all : (l v : Octets) → length l ≡ length v → over l v ≡ v
unfolding over
over_all [] [] e = refl
over_all [] (y ∷ v) e = absurd (suc-ne-zero _ (sym e))
over_all (x ∷ l) [] e = absurd (suc-ne-zero _ e)
over_all (x ∷ l) (y ∷ v) e = ap (λ (t : Octets). y ∷ t) (over_all l v (suc_inj e))

over_front : (l vs : Octets) → length vs ≤ length l → over l vs ≡ vs ++ drop (length vs) l
unfolding over
over_front [] [] h = refl
over_front [] (v ∷ vs) h = absurd (not-suc-le-zero h)
over_front (x ∷ l) [] h = refl
over_front (x ∷ l) (v ∷ vs) h = ap (λ (t : Octets). v ∷ t) (over_front l vs (le_of_suc-le-suc h))

take_over : (l vs : Octets) → length vs ≤ length l → take (length vs) (over l vs) ≡ vs
unfolding over
take_over l [] h = refl
take_over [] (v ∷ vs) h = absurd (not-suc-le-zero h)
take_over (x ∷ l) (v ∷ vs) h = ap (λ (t : Octets). v ∷ t) (take_over l vs (le_of_suc-le-suc h))

drop_over : (l vs : Octets) (off : ℕ) → length vs ≤ off → drop off (over l vs) ≡ drop off l
unfolding over
drop_over [] vs off h = refl
drop_over (x ∷ l) [] off h = refl
drop_over (x ∷ l) (v ∷ vs) zero h = absurd (not-suc-le-zero h)
drop_over (x ∷ l) (v ∷ vs) (suc off) h = drop_over l vs off (le_of_suc-le-suc h)

-- ---- splice: its length, and how it is made

pub length_splice : (l : Octets) (at : ℕ) (vs : Octets) → length (splice l at vs) ≡ length l
unfolding splice
length_splice l zero vs = length_over l vs
length_splice [] (suc n) vs = refl
length_splice (x ∷ l) (suc n) vs = ap suc (length_splice l n vs)

pub splice_nil : (l : Octets) (at : ℕ) → splice l at [] ≡ l
unfolding splice
splice_nil l zero = over_nil l
splice_nil [] (suc n) = refl
splice_nil (x ∷ l) (suc n) = ap (λ (t : Octets). x ∷ t) (splice_nil l n)

-- a store right after what is written is one more written
pub splice_more : (l : Octets) (at : ℕ) (s : Octets) (i : ℕ) → i < length s → at + i < length l
    → set (splice l at (take i s)) (at + i) (get_or s i 0) ≡ splice l at (take (suc i) s)
unfolding splice
splice_more l zero s i h k = rw zero-add (over_more l s i h (rw zero-add at k))
splice_more [] (suc n) s i h k = refl
splice_more (x ∷ l) (suc n) s i h k = rw suc-add (ap (λ (t : Octets). x ∷ t) (splice_more l n s i h (omega arith)))

-- what is written over the whole of a list
pub splice_all : (l v : Octets) → length l ≡ length v → splice l 0 v ≡ v
unfolding splice
splice_all l v e = over_all l v e

-- what is written over the front of a list, and the rest of it
pub splice_front : (l vs : Octets) → length vs ≤ length l → splice l 0 vs ≡ vs ++ drop (length vs) l
unfolding splice
splice_front l vs h = over_front l vs h

back : (a : Octets) (s k : ℕ) (p : Octets) → length p ≤ k
    → take s a ++ (splice (take k (drop s a)) 0 p ++ drop k (drop s a)) ≡ splice a s p
unfolding splice over
back a zero k p h = over_part a k p h
back [] (suc s) k p h = over_part [] k p h
back (x ∷ a) (suc s) k p h = ap (λ (t : Octets). x ∷ t) (back a s k p h)

-- `f(&mut a[s..s + k])`, where f leaves the part with p over its front: a with p over it at s
pub splice_lent : (a w : Octets) (s k : ℕ) (p : Octets) → length p ≤ k → w ≡ splice (cut s k a) 0 p
    → take s a ++ (w ++ drop (s + k - s) (drop s a)) ≡ splice a s p
unfolding cut
splice_lent a w s k p h e =
    let j : s + k - s ≡ k = omega arith in
    (λ i. take s a ++ (e i ++ drop (j i) (drop s a))) ∙ back a s k p h

-- `a[s..s + k].copy_from_slice(p)`, which leaves p in the part's place
pub splice_part : (a w p : Octets) (s : ℕ) → s + length p ≤ length a → w ≡ p → put_mid s (s + length p - s) a w ≡ splice a s p
splice_part a w p s h e =
    splice_lent a w s (length p) p (omega arith) (e ∙ sym (splice_all (cut s (length p) a) p (length_cut s (length p) a h)))

-- `copy_within(from..from + n, at)`: a part of the area written over the area
pub splice_within : (a : Octets) (from at n : ℕ) → from + n ≤ length a → at + n ≤ length a → copy_within a from (from + n) at ≡ splice a at (cut from n a)
splice_within a from at n h k =
    let all : from + n - from ≡ at + n - at = omega arith in
    let v = cut from n a in
    let same = sym (splice_all (cut at n a) v (length_cut at n a k ∙ sym (length_cut from n a h))) in
    append_assoc (take at a) (take (from + n - from) (drop from a)) (drop (at + (from + n - from)) a)
    ∙ (λ i. take at a ++ (cut_part from n a i ++ (sym (drop-drop (from + n - from) at a) ∙ ap (λ (m : ℕ). drop m (drop at a)) all) i))
    ∙ splice_lent a v at n v (cut_short from n a) same

-- ---- splice: one after another

over_next : (l a b : Octets) → splice (over l a) (length a) b ≡ over l (a ++ b)
unfolding over splice
over_next [] [] b = refl
over_next [] (v ∷ a) b = refl
over_next (x ∷ l) [] b = refl
over_next (x ∷ l) (v ∷ a) b = ap (λ (t : Octets). v ∷ t) (over_next l a b)

-- what is written right after it is written with it
pub splice_next : (l : Octets) (at : ℕ) (a b : Octets) → splice (splice l at a) (at + length a) b ≡ splice l at (a ++ b)
unfolding splice
splice_next l zero a b = rw zero-add (over_next l a b)
splice_next [] (suc n) a b = rw suc-add refl
splice_next (x ∷ l) (suc n) a b = rw suc-add (ap (λ (t : Octets). x ∷ t) (splice_next l n a b))

-- three parts, one after another
pub splice_three : (l a b c : Octets)
    → splice (splice (splice l 0 a) (length a) b) (length a + length b) c ≡ splice l 0 (a ++ (b ++ c))
splice_three l a b c =
    let first : length a ≡ 0 + length a = omega arith in
    let second : length a + length b ≡ 0 + length (a ++ b) = simp length-append (omega arith) in
    (λ i. splice ((ap (λ (k : ℕ). splice (splice l 0 a) k b) first ∙ splice_next l 0 a b) i) (second i) c)
    ∙ splice_next l 0 (a ++ b) c
    ∙ ap (splice l 0) (append_assoc a b c)

-- a first octet that is stored last
pub splice_ahead : (l : Octets) (v : ℕ) (vs : Octets) → set (splice l 1 vs) 0 v ≡ splice l 0 (v ∷ vs)
unfolding splice over
splice_ahead [] v vs = refl
splice_ahead (x ∷ l) v vs = refl

-- ---- splice: what is read afterwards

-- the part that was written
pub cut_same : (l : Octets) (at : ℕ) (vs : Octets) → at + length vs ≤ length l → cut at (length vs) (splice l at vs) ≡ vs
unfolding cut splice
cut_same l zero vs h = take_over l vs (rw zero-add at h)
cut_same [] (suc n) vs h = absurd (not-suc-le-zero {n = n + length vs} (omega arith))
cut_same (x ∷ l) (suc n) vs h = cut_same l n vs (omega arith)

-- a part before it
pub cut_before : (l : Octets) (at : ℕ) (vs : Octets) (off n : ℕ) → off + n ≤ at → cut off n (splice l at vs) ≡ cut off n l
unfolding cut splice
cut_before l zero vs off zero h = refl
cut_before l zero vs off (suc n) h = absurd (not-suc-le-zero {n = off + n} (omega arith))
cut_before [] (suc a) vs off n h = refl
cut_before (x ∷ l) (suc a) vs zero zero h = refl
cut_before (x ∷ l) (suc a) vs zero (suc n) h = ap (λ (t : Octets). x ∷ t) (cut_before l a vs zero n (omega arith))
cut_before (x ∷ l) (suc a) vs (suc off) n h = cut_before l a vs off n (omega arith)

-- all that stands after it
pub drop_splice : (l : Octets) (at : ℕ) (vs : Octets) (off : ℕ) → at + length vs ≤ off → drop off (splice l at vs) ≡ drop off l
unfolding splice
drop_splice l zero vs off h = drop_over l vs off (rw zero-add at h)
drop_splice [] (suc a) vs off h = refl
drop_splice (x ∷ l) (suc a) vs zero h = absurd (not-suc-le-zero {n = a + length vs} (omega arith))
drop_splice (x ∷ l) (suc a) vs (suc off) h = drop_splice l a vs off (omega arith)

-- a part after it
pub cut_after : (l : Octets) (at : ℕ) (vs : Octets) (off n : ℕ) → at + length vs ≤ off → cut off n (splice l at vs) ≡ cut off n l
unfolding cut
cut_after l at vs off n h = ap (take n) (drop_splice l at vs off h)

-- a part that has grown at its end
pub cut_grown : (l : Octets) (at k : ℕ) (v : Octets) → at + k + length v ≤ length l
    → cut at (k + length v) (splice l (at + k) v) ≡ cut at k l ++ v
unfolding cut
cut_grown l at k v h =
    take-add k (length v) (drop at (splice l (at + k) v))
    ∙ (λ i.
    cut_before l (at + k) v at k (omega arith) i
    ++ (ap (take (length v)) (drop-drop k at (splice l (at + k) v)) ∙ cut_same l (at + k) v h) i)

-- ---- a part copied by way of a local array z, which then is m

-- `&m[0..n]`: what was copied
pub cut_copied : (z m v : Octets) (n : ℕ) → length v ≡ n → n ≤ length z → m ≡ splice z 0 v → take (n - 0) (drop 0 m) ≡ v
unfolding cut
cut_copied z m v n long room e =
    rw (sub-zero n)
    (ap (take n) e
    ∙ ap (λ (k : ℕ). take k (splice z 0 v)) (sym long)
    ∙ cut_same z 0 v (omega arith))

-- `&m[i..i + n]`: a part of what was copied
pub cut_of_copy : (z m v : Octets) (i n : ℕ) → i + n ≤ length v → length v ≤ length z → m ≡ splice z 0 v
    → take (i + n - i) (drop i m) ≡ cut i n v
unfolding cut
cut_of_copy z m v i n hv hz e =
    let from : i ≡ 0 + i = omega arith in
    cut_part i n m
    ∙ (λ j. cut (from j) n (e j))
    ∙ sym (cut_cut i n 0 (length v) (splice z 0 v) hv)
    ∙ ap (cut i n) (cut_same z 0 v (omega arith))
