-- Laws of values as they are stored: what is written is read back, and no other value changes.
-- Assumes nothing.
use Prim.Native.Nat.{ℕ, zero, suc, ◌+◌, ◌-◌, ◌≤◌, ◌<◌}
use mathlib.Core.Path.{◌≡◌, refl, sym, ◌∙◌, ap}
use mathlib.Core.Bool.{Bool, true, false, ◌&&◌, ◌||◌}
use mathlib.Core.List.{[], ◌∷◌}
use mathlib.Core.Logic.{◌⊎◌, inl, inr}
use native.Mathlib.Omega.{arith}
use lib.ListN.{length, get_or, take, drop}
use lib.Seq.{take-length, drop-cons}
use lib.Dec.{eqb, leb}
use borrow.Author.Tests.{eq-eqb, ne_eqb, leb-true}
use Rattle.octets.specs.Octets.{Octets, pick, cut}
use Rattle.octets.proofs.Octets.{length_splice, octet_cut, cut_same, cut_before, cut_after, cut_cut}
use Rattle.config.specs.declared.table.Row.{Row}
use Rattle.std.specs.Prelude.{Some, replicate}
use Rattle.std.proofs.lemmas.List.{length-replicate, get_or-replicate}
use Rattle.config.specs.Table.{row, table, row_of, allowed_by, all_allowed, acceptable}
use Rattle.config.specs.declared.table.Values.{Values}
use Rattle.config.proofs.Rows.{every, found_all, found_id}
use Rattle.config.specs.Stored.{is_fixed, lead, room, size_in, value_in, form_of, with_value, zeros, row_ok}

-- ---- lengths

pub long_value : (r : Row) (v b : Octets) → length (with_value r v b) ≡ length b
unfolding with_value
long_value r v b = length_splice _ _ _ ∙ length_splice _ _ _

-- ---- octets outside a parameter

-- two parameters that share no octet
abbrev pub Apart : Row → Row → Type 0
Apart r q = (r.at + room r ≤ q.at) ⊎ (q.at + room q ≤ r.at)

form_short : (r : Row) (v : Octets) → length v ≤ r.most → length (form_of r v) ≤ room r
form_short r v h = go (is_fixed r)
  where
    go : (f : Bool) → length (pick f v (length v ∷ v)) ≤ pick f 0 1 + r.most
    go true = omega arith
    go false = omega arith

-- a part of the octets past the parameter, or before it, is as it was
pub part_kept : (r : Row) (v b : Octets) (i n : ℕ) → length v ≤ r.most → (r.at + room r ≤ i) ⊎ (i + n ≤ r.at)
    → cut i n (with_value r v b) ≡ cut i n b
unfolding with_value
part_kept r v b i n h (inl past) =
    cut_after _ r.at (form_of r v) i n (omega (arith, form_short r v h))
    ∙ cut_after b r.at (replicate (room r) 0x00) i n (omega (arith, length-replicate {A = ℕ} (room r) 0x00))
part_kept r v b i n h (inr front) = cut_before _ r.at (form_of r v) i n front ∙ cut_before b r.at (replicate (room r) 0x00) i n front

-- an octet is a part
as_part : (b : Octets) (i : ℕ) → get_or b i 0 ≡ get_or (cut i 1 b) 0 0
as_part b i =
    let e : i + 0 ≡ i = omega arith in
    ap (λ (k : ℕ). get_or b k 0) (sym e) ∙ sym (octet_cut i 1 b 0 (omega arith))

octet_kept : (r : Row) (v b : Octets) (i : ℕ) → length v ≤ r.most → (r.at + room r ≤ i) ⊎ (i + 1 ≤ r.at)
    → get_or (with_value r v b) i 0 ≡ get_or b i 0
octet_kept r v b i h apart = as_part _ i ∙ ap (λ (l : Octets). get_or l 0 0) (part_kept r v b i 1 h apart) ∙ sym (as_part b i)

-- ---- another value

size_kept : (r q : Row) (v b : Octets) → length v ≤ r.most → Apart r q → size_in (with_value r v b) q ≡ size_in b q
size_kept r q v b h apart = go (is_fixed q) refl apart
  where
    go : (f : Bool) → is_fixed q ≡ f → Apart r q → pick f q.most (get_or (with_value r v b) q.at 0) ≡ pick f q.most (get_or b q.at 0)
    go true e a = refl
    go false e (inl past) = octet_kept r v b q.at h (inl past)
    go false e (inr front) =
        let one : room q ≡ 1 + q.most = ap (λ (f : Bool). pick f 0 1 + q.most) e in
        octet_kept r v b q.at h (inr (omega arith))

pub value_kept : (r q : Row) (v b : Octets) → length v ≤ r.most → Apart r q → value_in (with_value r v b) q ≡ value_in b q
unfolding value_in
value_kept r q v b h apart =
    λ i. cut 0 (size_kept r q v b h apart i) (part_kept r v b (q.at + lead q) q.most h (place apart) i)
  where
    place : Apart r q → (r.at + room r ≤ q.at + lead q) ⊎ (q.at + lead q + q.most ≤ r.at)
    place (inl past) = inl (omega arith)
    place (inr front) = inr (omega arith)

-- ---- the value itself

-- a value of fixed length has that length
pub record Fits (r : Row) (v b : Octets) : Type 0 where
  pub inside : r.at + room r ≤ length b
  pub short : length v ≤ r.most
  pub whole : is_fixed r ≡ true → length v ≡ r.most

module _ (r : Row) (v b : Octets) (f : Fits r v b) where
  -- the octets that are written
  form_there : cut r.at (length (form_of r v)) (with_value r v b) ≡ form_of r v
  unfolding with_value
  form_there =
      cut_same _ r.at (form_of r v)
      (omega (arith, form_short r v f.short, length_splice b r.at (replicate (room r) 0x00), f.inside))

  size_there : size_in (with_value r v b) r ≡ length v
  size_there = go (is_fixed r) refl form_there f.whole
    where
      go : (t : Bool) → is_fixed r ≡ t
          → cut r.at (length (pick t v (length v ∷ v))) (with_value r v b) ≡ pick t v (length v ∷ v)
          → (t ≡ true → length v ≡ r.most)
          → pick t r.most (get_or (with_value r v b) r.at 0) ≡ length v
      go true e c w = sym (w refl)
      go false e c w =
          let z : r.at + 0 ≡ r.at = omega arith in
          ap (λ (k : ℕ). get_or (with_value r v b) k 0) (sym z)
          ∙ sym (octet_cut r.at (suc (length v)) (with_value r v b) 0 (omega arith))
          ∙ ap (λ (l : Octets). get_or l 0 0) c

  lead_long : lead r + length v ≡ length (form_of r v)
  lead_long = go (is_fixed r)
    where
      go : (t : Bool) → pick t 0 1 + length v ≡ length (pick t v (length v ∷ v))
      go true = omega arith
      go false = omega arith

  lead_cut : cut (lead r) (length v) (form_of r v) ≡ v
  unfolding cut
  lead_cut = go (is_fixed r)
    where
      go : (t : Bool) → take (length v) (drop (pick t 0 1) (pick t v (length v ∷ v))) ≡ v
      go true = take-length v
      go false = take-length v

  pub value_there : value_in (with_value r v b) r ≡ v
  unfolding value_in
  value_there =
      let here : r.at + lead r + 0 ≡ r.at + lead r = omega arith in
      (λ i. cut 0 (size_there i) (cut (r.at + lead r) r.most (with_value r v b)))
      ∙ cut_cut 0 (length v) (r.at + lead r) r.most (with_value r v b) (omega (arith, f.short))
      ∙ (λ i. cut (here i) (length v) (with_value r v b))
      ∙ sym (cut_cut (lead r) (length v) r.at (length (form_of r v)) (with_value r v b) (omega (arith, lead_long)))
      ∙ ap (cut (lead r) (length v)) form_there
      ∙ lead_cut

  -- ---- 00 past its end

  zero_there : (i : ℕ) → length (form_of r v) + i < room r → get_or (with_value r v b) (r.at + (length (form_of r v) + i)) 0 ≡ 0
  unfolding with_value
  zero_there i h =
      as_part _ _
      ∙ ap (λ (l : Octets). get_or l 0 0) (cut_after _ r.at (form_of r v) (r.at + (length (form_of r v) + i)) 1 (omega arith))
      ∙ sym (as_part _ _)
      ∙ sym (octet_cut r.at (length (replicate (room r) 0x00)) _ (length (form_of r v) + i) (omega (arith, length-replicate {A = ℕ} (room r) 0x00)))
      ∙ ap (λ (l : Octets). get_or l (length (form_of r v) + i) 0)
      (cut_same b r.at (replicate (room r) 0x00) (omega (arith, length-replicate {A = ℕ} (room r) 0x00, f.inside)))
      ∙ get_or-replicate {A = ℕ} (room r) (length (form_of r v) + i) 0x00 0 h

  clear_there : (n : ℕ) → length (form_of r v) + n ≤ room r → zeros (with_value r v b) (r.at + length (form_of r v)) n ≡ true
  unfolding zeros
  clear_there zero h = refl
  clear_there (suc n) h =
      let at : r.at + length (form_of r v) + n ≡ r.at + (length (form_of r v) + n) = omega arith in
      rw (clear_there n (omega arith)) (eq-eqb _ 0 (ap (λ (k : ℕ). get_or (with_value r v b) k 0) at ∙ zero_there n (omega arith)))

  pub row_there : acceptable r v ≡ true → row_ok (with_value r v b) r ≡ true
  unfolding row_ok acceptable
  row_there ok =
      let e : r.at + lead r + length v ≡ r.at + length (form_of r v) = omega (arith, lead_long) in
      rw (size_there, value_there, ok, e) (clear_there (r.most - length v) (omega (arith, lead_long, f.short)))

-- ---- row 1 of another

clear_same : (a b : Octets) (i n : ℕ) → ((k : ℕ) → k < n → get_or a (i + k) 0 ≡ get_or b (i + k) 0) → zeros a i n ≡ zeros b i n
unfolding zeros
clear_same a b i zero h = refl
clear_same a b i (suc n) h = λ j. clear_same a b i n (λ k l. h k (omega arith)) j && eqb (h n (omega arith) j) 0x00

pub row_kept : (r q : Row) (v b : Octets) → length v ≤ r.most → Apart r q → row_ok (with_value r v b) q ≡ row_ok b q
unfolding row_ok
row_kept r q v b h apart =
    rw (size_kept r q v b h apart, value_kept r q v b h apart)
    (ap
    (λ (c : Bool).
    leb q.least (size_in b q) && leb (size_in b q) q.most && all_allowed q.values (value_in b q) (length (value_in b q)) && c)
    (clear_same _ b _ _ (λ k l. octet_kept r v b _ h (place k l apart))))
  where
    place : (k : ℕ) → k < q.most - size_in b q → Apart r q
        → (r.at + room r ≤ q.at + lead q + size_in b q + k) ⊎ (q.at + lead q + size_in b q + k + 1 ≤ r.at)
    place k l (inl past) = inl (omega arith)
    place k l (inr front) = inr (omega arith)

-- ---- rows of the table

or_true : (a b : Bool) → b ≡ true → (a || b) ≡ true
or_true true b e = refl
or_true false b e = e

-- two rows have different octets, or the same ID
abbrev apart_test : Row → Row → Bool
apart_test r q = eqb r.id q.id || (leb (r.at + room r) q.at || leb (q.at + room q) r.at)

apart_tested : (i j : ℕ) (r q : Row) → row_of i ≡ Some r → row_of j ≡ Some q → apart_test r q ≡ true
unfolding table
apart_tested i j r q e f = found_all (λ x. apart_test r x) (found_all (λ x. every (λ y. apart_test x y) table) refl i r e) j q f

from_test : (r q : Row) → (leb (r.at + room r) q.at || leb (q.at + room q) r.at) ≡ true → Apart r q
from_test r q e = go (leb (r.at + room r) q.at) refl e
  where
    go : (t : Bool) → leb (r.at + room r) q.at ≡ t → (t || leb (q.at + room q) r.at) ≡ true → Apart r q
    go true x e = inl (leb-true _ _ x)
    go false x e = inr (leb-true _ _ e)

pub apart : (i j : ℕ) (r q : Row) → row_of i ≡ Some r → row_of j ≡ Some q → (i ≡ j → ⊥) → Apart r q
apart i j r q e f ne =
    from_test r q (rw (ne_eqb r.id q.id (λ x. ne (sym (found_id i r e) ∙ x ∙ found_id j q f))) at (apart_tested i j r q e f))

-- ---- row 1 of a parameter of one octet

one_octet : (b : Octets) (at : ℕ) → at + 1 ≤ length b → cut 0 1 (cut (at + 0) 1 b) ≡ get_or b at 0 ∷ []
unfolding cut
one_octet b at h =
    let e : at + 0 ≡ at = omega arith in
    (λ i. take 1 (drop 0 (take 1 (drop (e i) b)))) ∙ ap (λ (l : Octets). take 1 (drop 0 (take 1 l))) (drop-cons b at 0 (omega arith))

and_true : (a : Bool) → (a && true) ≡ a
and_true true = refl
and_true false = refl

pub octet_row : (id at d : ℕ) (vs : Values) (b : Octets) → at + 1 ≤ length b → row_ok b (row id at 1 1 d vs) ≡ allowed_by vs (get_or b at 0)
unfolding row_ok value_in all_allowed zeros
octet_row id at d vs b h =
    and_true _ ∙ ap (λ (v : Octets). all_allowed vs v (length v)) (one_octet b at h)
