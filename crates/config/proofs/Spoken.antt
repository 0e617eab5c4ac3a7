-- What the controller writes is what the host takes for written: both responses, from every payload and all values that row 1 lets pass.
-- Assumes nothing.
use Prim.Native.Nat.{ℕ, zero, suc, ◌+◌, ◌*◌, ◌≤◌, ◌<◌}
use mathlib.Core.Path.{◌≡◌, refl, sym, ◌∙◌, ap}
use mathlib.Core.Bool.{Bool, true, false, ◌&&◌, not, false≢true}
use mathlib.Core.List.{[], ◌∷◌, ◌++◌, append_assoc, append-nil}
use native.Mathlib.Omega.{arith}
use native.Mathlib.Numerals.{add-one}
use native.Mathlib.Nat.{not-suc-le-zero}
use lib.ListN.{length, get_or, take, drop, length-append}
use lib.Seq.{take_all, take_at, drop_at, drop-drop, get_or-append-add}
use lib.Dec.{eqb, leb}
use borrow.Author.Tests.{eq-eqb, leb-true, leb-false, le-leb}
use Rattle.octets.specs.Octets.{Octets, pick, cut}
use Rattle.octets.proofs.Octets.{length_cut}
use Rattle.state.proofs.Chains.{and_left, and_right}
use Rattle.config.specs.declared.table.Row.{Row}
use Rattle.config.specs.Table.{config_size, row_of, known_row, all_allowed, acceptable, acceptable_by}
use Rattle.std.specs.Prelude.{Option, Some, None}
use Rattle.config.specs.Stored.{lead, room, size_in, value_in, value_of, row_ok}
use Rattle.config.specs.Commands.{count_in, param_at, id_in, param_in, invalid_in, set_rsp, asked_in, shown_one, shown_in, unavailable_in, unavailable_count}
use Rattle.state.specs.Names.{invalid_param}
use Rattle.config.specs.Written.{set_written, values_written, unavailable_written, get_written, list_written}
use Rattle.config.proofs.Rows.{found_fits}
use Rattle.config.proofs.Lists.{param_far, invalid_few, unavailable_twice}
use Rattle.config.proofs.Accepted.{EachOk, all_known}

-- ---- a set's

pub set_is_written : (m : Octets) → param_at m (count_in m) ≤ 255 → set_written (set_rsp m) ≡ true
unfolding set_written
set_is_written m h =
    let n = length (invalid_in m (count_in m)) in
    let few : n ≤ 127 = omega (arith, param_far m (count_in m), invalid_few m (count_in m)) in
    let two : suc (suc n) ≡ 2 + n = omega arith in
    rw (eq-eqb (suc (suc n)) (2 + n) two, le-leb n 127 few) (eq-eqb (pick (eqb n 0) 0x00 invalid_param) (pick (eqb n 0) 0x00 invalid_param) refl)

-- ---- a value that row 1 lets pass is acceptable

pub row_acceptable : (b : Octets) (r : Row) → r.at + room r ≤ length b → row_ok b r ≡ true → acceptable r (value_in b r) ≡ true
unfolding row_ok acceptable value_in
row_acceptable b r fits e =
    let v = cut 0 (size_in b r) (cut (r.at + lead r) r.most b) in
    let first = and_left (leb r.least (size_in b r) && leb (size_in b r) r.most && all_allowed r.values v (length v)) _ e in
    let sizes = and_left (leb r.least (size_in b r) && leb (size_in b r) r.most) _ first in
    let small : size_in b r ≤ r.most = leb-true _ _ (and_right (leb r.least (size_in b r)) _ sizes) in
    let whole : length (cut (r.at + lead r) r.most b) ≡ r.most = length_cut (r.at + lead r) r.most b (omega arith) in
    let long : length v ≡ size_in b r = length_cut 0 (size_in b r) (cut (r.at + lead r) r.most b) (omega arith) in
    ap (λ (n : ℕ). leb r.least n && leb n r.most && all_allowed r.values v (length v)) long ∙ first

-- ---- an entry that stands in a list

module _ (p : Octets) (id : ℕ) (v rest : Octets) where
  abbrev pub list : Octets
  list = p ++ (id ∷ length v ∷ (v ++ rest))

  pub entry_id_law : get_or list (length p) 0 ≡ id
  entry_id_law =
      let e : length p + 0 ≡ length p = omega arith in
      ap (λ (k : ℕ). get_or list k 0) (sym e) ∙ get_or-append-add p (id ∷ length v ∷ (v ++ rest)) 0 0

  pub entry_length : get_or list (length p + 1) 0 ≡ length v
  entry_length = get_or-append-add p (id ∷ length v ∷ (v ++ rest)) 1 0

  pub entry_value : cut (length p + 2) (length v) list ≡ v
  unfolding cut
  entry_value =
      ap (take (length v)) (sym (drop-drop 2 (length p) list) ∙ ap (drop 2) (drop_at p (id ∷ length v ∷ (v ++ rest)) (length p) refl))
      ∙ take_at v rest (length v) refl

-- ---- a get's

-- the first i, the next, and others
record Split (b m : Octets) (i n : ℕ) : Type 0 where
  others : Octets
  split : shown_in b m n ≡ shown_in b m i ++ (shown_one b (asked_in m i) ++ others)

shown_split : (b m : Octets) (i n : ℕ) → i < n → Split b m i n
unfolding shown_in
shown_split b m i zero h = absurd (not-suc-le-zero h)
shown_split b m i (suc n) h = go (leb (suc i) n) refl (λ k. shown_split b m i n k)
  where
    go : (t : Bool) → leb (suc i) n ≡ t → (i < n → Split b m i n) → Split b m i (suc n)
    go true e k =
        let s = k (leb-true (suc i) n e) in
        record {
          others = s.others ++ shown_one b (asked_in m n);
          split =
              ap (λ (l : Octets). l ++ shown_one b (asked_in m n)) s.split
              ∙ append_assoc (shown_in b m i) (shown_one b (asked_in m i) ++ s.others) (shown_one b (asked_in m n))
              ∙ ap (λ (l : Octets). shown_in b m i ++ l) (append_assoc (shown_one b (asked_in m i)) s.others (shown_one b (asked_in m n)));
        }
    go false e k =
        let z : n ≡ i = omega (arith, leb-false (suc i) n e) in
        record {
          others = [];
          split = (λ j. shown_in b m (z j) ++ shown_one b (asked_in m (z j))) ∙ ap (λ (l : Octets). shown_in b m i ++ l) (sym (append-nil _));
        }

module _ (b m : Octets) (x n : ℕ) where
  shown_list : Octets
  shown_list = x ∷ shown_in b m n

  -- what parameter i of the list is
  record Entry (i : ℕ) : Type 0 where
    id : id_in shown_list i ≡ asked_in m i
    value : param_in shown_list i ≡ value_of b (row_of (asked_in m i))
    next : param_at shown_list (suc i) ≡ suc (length (shown_in b m (suc i)))

  entry : (i : ℕ) → i < n → param_at shown_list i ≡ suc (length (shown_in b m i)) → Entry i
  unfolding shown_list param_at shown_in
  entry i h place =
      let s = shown_split b m i n h in
      let a = asked_in m i in
      let v = value_of b (row_of a) in
      let p = x ∷ shown_in b m i in
      let l : shown_list ≡ list p a v s.others = ap (λ (k : Octets). x ∷ k) s.split in
      let len : get_or shown_list (param_at shown_list i + 1) 0 ≡ length v = (λ j. get_or (l j) (place j + 1) 0) ∙ entry_length p a v s.others in
      let e = length-append (shown_in b m i) (shown_one b a) in
      record {
        id = (λ j. get_or (l j) (place j) 0) ∙ entry_id_law p a v s.others;
        value = (λ j. cut (place j + 2) (len j) (l j)) ∙ entry_value p a v s.others;
        next = omega arith;
      }

  places : (i : ℕ) → i ≤ n → param_at shown_list i ≡ suc (length (shown_in b m i))
  unfolding param_at shown_in
  places zero h = refl
  places (suc i) h = (entry i (omega arith) (places i (omega arith))).next

  -- a parameter that is known has an acceptable value
  known_acceptable : length b ≡ config_size → EachOk b → (id : ℕ) → known_row (row_of id) ≡ true
      → acceptable_by (row_of id) (value_of b (row_of id)) ≡ true
  known_acceptable l ok id known = go (row_of id) refl known
    where
      go : (o : Option Row) → row_of id ≡ o → known_row o ≡ true → acceptable_by o (value_of b o) ≡ true
      go None e k = absurd (false≢true k)
      go (Some r) e k = row_acceptable b r (omega (arith, found_fits id r e)) (ok id r e)

  shown_values : length b ≡ config_size → EachOk b → ((i : ℕ) → i < n → known_row (row_of (asked_in m i)) ≡ true)
      → (i : ℕ) → i ≤ n → values_written shown_list i ≡ true
  unfolding values_written
  shown_values l ok known zero h = refl
  shown_values l ok known (suc i) h =
      let e = entry i (omega arith) (places i (omega arith)) in
      let a = asked_in m i in
      rw (shown_values l ok known i (omega arith))
      ((λ j. acceptable_by (row_of (e.id j)) (e.value j)) ∙ known_acceptable l ok a (known i (omega arith)))

-- an OK response
pub get_is_written : (b m : Octets) → length b ≡ config_size → EachOk b → unavailable_count m (count_in m) ≡ 0
    → get_written (0x00 ∷ count_in m ∷ shown_in b m (count_in m)) ≡ true
unfolding get_written cut shown_list
get_is_written b m l ok none =
    let n = count_in m in
    let s = n ∷ shown_in b m n in
    let part : cut 1 (suc (length s)) (0x00 ∷ s) ≡ s = take_all (suc (length s)) s (omega arith) in
    let end : param_at s n ≡ length s = places b m n n n (omega arith) in
    rw (le-leb 2 (suc (length s)) (omega arith))
    (ap list_written part
    ∙ (λ j. eq-eqb (param_at s n) (length s) end j && shown_values b m n n l ok (all_known m n none) n (omega arith) j))

-- ---- a get's with IDs that are not known

unavailable_all : (m rest : Octets) (x y n : ℕ) → unavailable_written (x ∷ y ∷ (unavailable_in m n ++ rest)) (unavailable_count m n) ≡ true
unfolding unavailable_in unavailable_count unavailable_written
unavailable_all m rest x y zero = refl
unavailable_all m rest x y (suc n) =
    go (known_row (row_of (asked_in m n))) refl (λ others. unavailable_all m others x y n)
  where
    go : (t : Bool) → known_row (row_of (asked_in m n)) ≡ t
        → ((others : Octets) → unavailable_written (x ∷ y ∷ (unavailable_in m n ++ others)) (unavailable_count m n) ≡ true)
        → unavailable_written (x ∷ y ∷ ((unavailable_in m n ++ pick t [] (asked_in m n ∷ 0x00 ∷ [])) ++ rest)) (unavailable_count m n + pick t 0 1) ≡ true
    go true e before =
        let z : unavailable_count m n + 0 ≡ unavailable_count m n = omega arith in
        (λ j. unavailable_written (x ∷ y ∷ (append-nil (unavailable_in m n) j ++ rest)) (z j)) ∙ before rest
    go false e before =
        let a = asked_in m n in
        let k = unavailable_count m n in
        let p = x ∷ y ∷ unavailable_in m n in
        let l = p ++ (a ∷ 0x00 ∷ rest) in
        let at : 2 + 2 * k ≡ length p + 0 = omega (arith, unavailable_twice m n) in
        let next : 3 + 2 * k ≡ length p + 1 = omega (arith, unavailable_twice m n) in
        let id : get_or l (2 + 2 * k) 0 ≡ a = ap (λ (i : ℕ). get_or l i 0) at ∙ get_or-append-add p (a ∷ 0x00 ∷ rest) 0 0 in
        let none : get_or l (3 + 2 * k) 0 ≡ 0x00 = ap (λ (i : ℕ). get_or l i 0) next ∙ get_or-append-add p (a ∷ 0x00 ∷ rest) 1 0 in
        (λ j. unavailable_written (x ∷ y ∷ append_assoc (unavailable_in m n) (a ∷ 0x00 ∷ []) rest j) (add-one k j))
        ∙ (λ j. before (a ∷ 0x00 ∷ rest) j && (not (known_row (row_of (id j))) && eqb (none j) 0x00))
        ∙ rw e refl

pub unavailable_is_written : (m : Octets) → (unavailable_count m (count_in m) ≡ 0 → ⊥)
    → get_written (invalid_param ∷ unavailable_count m (count_in m) ∷ unavailable_in m (count_in m)) ≡ true
unfolding get_written
unavailable_is_written m some =
    let n = unavailable_count m (count_in m) in
    let one : 1 ≤ n = omega arith in
    let twice : suc (suc (length (unavailable_in m (count_in m)))) ≡ 2 + 2 * n = omega (arith, unavailable_twice m (count_in m)) in
    rw (le-leb 1 n one, eq-eqb (suc (suc (length (unavailable_in m (count_in m))))) (2 + 2 * n) twice)
    ((λ j. unavailable_written (invalid_param ∷ n ∷ sym (append-nil (unavailable_in m (count_in m))) j) n) ∙ unavailable_all m [] invalid_param n (count_in m))
