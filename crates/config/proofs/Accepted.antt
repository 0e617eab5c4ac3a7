-- What the two commands do, by ID: after a set each parameter has the value last accepted, else the old one; a get shows the values; row 1 is kept.
-- Assumes nothing.
use Prim.Native.Nat.{ℕ, zero, suc, ◌+◌, ◌≤◌, ◌<◌}
use mathlib.Core.Path.{◌≡◌, refl, sym, ◌∙◌, ap}
use mathlib.Core.Bool.{Bool, true, false, ◌&&◌, false≢true}
use mathlib.Core.List.{[], ◌∷◌, ◌++◌}
use native.Mathlib.Omega.{arith}
use native.Mathlib.Nat.{not-suc-le-zero}
use lib.ListN.{length, get_or}
use lib.Dec.{eqb, leb}
use borrow.Author.Tests.{leb-true, leb-false, eqb-true, eqb-false}
use Rattle.octets.specs.Octets.{Octets, pick, cut}
use Rattle.state.specs.Names.{status_ok, invalid_param, size_exceeded}
use Rattle.state.proofs.Chains.{and_left, and_right}
use Rattle.config.specs.declared.table.Row.{Row}
use Rattle.config.specs.Table.{table, row_count, config_size, row_at, row_of, known_row, acceptable, default_of}
use Rattle.std.specs.Prelude.{Option, Some, None}
use Rattle.config.specs.Stored.{is_fixed, value_in, value_of, with_value, defaults, row_ok, rows_ok, parameters_ok}
use Rattle.config.specs.Commands.{count_in, id_in, param_in, settled, accepted_by, accepted, set_found, set_one, set_first, asked_in, shown_in, unavailable_count, get_rsp}
use Rattle.config.specs.Accepted.{ById, default_by, all_restored, settled_by, last_accepted, showing}
use Rattle.config.proofs.Rows.{found_fits, found_all, found_row, rows_found}
use Rattle.config.proofs.Lists.{acceptable_short, set_long, get_ok, get_long, get_unavailable, get_unavailable_long}
use Rattle.config.proofs.Kept.{Fits, value_there, value_kept, row_there, row_kept, apart}

-- ---- what is acceptable fits

acceptable_whole : (r : Row) (v : Octets) → acceptable r v ≡ true → is_fixed r ≡ true → length v ≡ r.most
unfolding acceptable
acceptable_whole r v e f =
    let low : r.least ≤ length v = leb-true _ _ (and_left (leb r.least (length v)) _ (and_left (leb r.least (length v) && leb (length v) r.most) _ e)) in
    omega (arith, acceptable_short r v e, eqb-true r.least r.most f)

pub fits : (id : ℕ) (r : Row) (v b : Octets) → row_of id ≡ Some r → length b ≡ config_size → acceptable r v ≡ true → Fits r v b
fits id r v b k l e =
    record {
      inside = omega (arith, found_fits id r k);
      short = acceptable_short r v e;
      whole = acceptable_whole r v e;
    }

-- an ID has one row
one_row : (i id : ℕ) (r q : Row) → row_of i ≡ Some r → row_of id ≡ Some q → i ≡ id → r ≡ q
one_row i id r q e k same = let both : Some r ≡ Some q = sym e ∙ ap row_of same ∙ k in cc

-- ---- one parameter of a set

one_settled : (i id : ℕ) (q : Row) (v b : Octets) → length b ≡ config_size → row_of id ≡ Some q
    → value_in (set_one i v b) q ≡ pick (accepted i v && eqb i id) (settled q v) (value_in b q)
one_settled i id q v b l k = go (row_of i) refl
  where
    go : (o : Option Row) → row_of i ≡ o → value_in (set_found o v b) q ≡ pick (accepted_by o v && eqb i id) (settled q v) (value_in b q)
    go None e = refl
    go (Some r) e = one (acceptable r (settled r v)) refl
      where
        one : (ok : Bool) → acceptable r (settled r v) ≡ ok
            → value_in (pick ok (with_value r (settled r v) b) b) q ≡ pick (ok && eqb i id) (settled q v) (value_in b q)
        one false t = refl
        one true t = same (eqb i id) refl
          where
            same : (u : Bool) → eqb i id ≡ u → value_in (with_value r (settled r v) b) q ≡ pick u (settled q v) (value_in b q)
            same true u =
                let z : r ≡ q = one_row i id r q e k (eqb-true i id u) in
                ap (λ (p : Row). value_in (with_value p (settled p v) b) q) z
                ∙ value_there q (settled q v) b (fits id q (settled q v) b k l (sym (ap (λ (p : Row). acceptable p (settled p v)) z) ∙ t))
            same false u = value_kept r q (settled r v) b (acceptable_short r (settled r v) t) (apart i id r q e k (eqb-false i id u))

pub one_accepted : (i id : ℕ) (v b : Octets) → length b ≡ config_size → known_row (row_of id) ≡ true
    → value_of (set_one i v b) (row_of id) ≡ pick (accepted i v && eqb i id) (settled_by (row_of id) v) (value_of b (row_of id))
one_accepted i id v b l k = go (row_of id) refl k
  where
    go : (o : Option Row) → row_of id ≡ o → known_row o ≡ true
        → value_of (set_one i v b) o ≡ pick (accepted i v && eqb i id) (settled_by o v) (value_of b o)
    go None e n = absurd (false≢true n)
    go (Some q) e n = one_settled i id q v b l e

-- ---- a set, by ID

pub set_accepted : (m b : Octets) (g : ById) (id : ℕ) → length b ≡ config_size → known_row (row_of id) ≡ true → value_of b (row_of id) ≡ g id
    → (n : ℕ) → value_of (set_first b m n) (row_of id) ≡ last_accepted m n g id
unfolding set_first last_accepted
set_accepted m b g id l k e zero = e
set_accepted m b g id l k e (suc n) =
    one_accepted (id_in m n) id (param_in m n) (set_first b m n) (set_long b m n ∙ l) k
    ∙ ap (pick (accepted (id_in m n) (param_in m n) && eqb (id_in m n) id) (settled_by (row_of id) (param_in m n))) (set_accepted m b g id l k e n)

-- ---- a get, by ID

-- all are known
pub all_known : (m : Octets) (n : ℕ) → unavailable_count m n ≡ 0 → (i : ℕ) → i < n → known_row (row_of (asked_in m i)) ≡ true
unfolding unavailable_count
all_known m zero e i h = absurd (not-suc-le-zero h)
all_known m (suc n) e i h = go (known_row (row_of (asked_in m n))) refl e (leb (suc i) n) refl (λ z j. all_known m n z i j)
  where
    go : (t : Bool) → known_row (row_of (asked_in m n)) ≡ t → unavailable_count m n + pick t 0 1 ≡ 0 → (u : Bool) → leb (suc i) n ≡ u
        → (unavailable_count m n ≡ 0 → i < n → known_row (row_of (asked_in m i)) ≡ true) → known_row (row_of (asked_in m i)) ≡ true
    go false t z u x k = absurd (not-suc-le-zero {n = unavailable_count m n} (omega arith))
    go true t z true x k = k (omega arith) (leb-true _ _ x)
    go true t z false x k = let e : i ≡ n = omega (arith, leb-false (suc i) n x) in rw e t

pub get_shows : (b m : Octets) (g : ById) → ((id : ℕ) → known_row (row_of id) ≡ true → value_of b (row_of id) ≡ g id)
    → (n : ℕ) → unavailable_count m n ≡ 0 → shown_in b m n ≡ showing g m n
unfolding shown_in showing
get_shows b m g h n e = go n (all_known m n e)
  where
    go : (k : ℕ) → ((i : ℕ) → i < k → known_row (row_of (asked_in m i)) ≡ true) → shown_in b m k ≡ showing g m k
    go zero all = refl
    go (suc k) all =
        let v = h (asked_in m k) (all k (omega arith)) in
        λ j. go k (λ i l. all i (omega arith)) j ++ (asked_in m k ∷ length (v j) ∷ v j)

-- an OK response shows them, and nothing else
pub get_ok_shows : (b m : Octets) (g : ById) → ((id : ℕ) → known_row (row_of id) ≡ true → value_of b (row_of id) ≡ g id)
    → get_or (get_rsp b m) 0 0 ≡ status_ok → get_rsp b m ≡ status_ok ∷ count_in m ∷ showing g m (count_in m)
get_ok_shows b m g h ok = known (eqb (unavailable_count m n) 0) refl
  where
    n : ℕ
    n = count_in m

    -- it is no other response
    other : {A : Type 0} (status : ℕ) (rest : Octets) → (status ≡ 0 → ⊥) → get_rsp b m ≡ status ∷ rest → A
    other status rest bad e = absurd (bad (sym (ap (λ (x : Octets). get_or x 0 0) e) ∙ ok))

    fitting : unavailable_count m n ≡ 0 → (t : Bool) → leb (length (shown_in b m n)) 253 ≡ t → get_rsp b m ≡ status_ok ∷ n ∷ showing g m n
    fitting e true t = get_ok b m e (leb-true _ _ t) ∙ ap (λ (x : Octets). status_ok ∷ n ∷ x) (get_shows b m g h n e)
    fitting e false t = other size_exceeded [] (λ z. omega (arith, z)) (get_long b m e (leb-false _ _ t))

    lacking : (unavailable_count m n ≡ 0 → ⊥) → (t : Bool) → leb (unavailable_count m n) 126 ≡ t → get_rsp b m ≡ status_ok ∷ n ∷ showing g m n
    lacking e true t = other invalid_param _ (λ z. omega (arith, z)) (get_unavailable b m e (leb-true _ _ t))
    lacking e false t = other size_exceeded [] (λ z. omega (arith, z)) (get_unavailable_long b m e (leb-false _ _ t))

    known : (t : Bool) → eqb (unavailable_count m n) 0 ≡ t → get_rsp b m ≡ status_ok ∷ n ∷ showing g m n
    known true t = fitting (eqb-true _ _ t) (leb (length (shown_in b m n)) 253) refl
    known false t = lacking (eqb-false _ _ t) (leb (unavailable_count m n) 126) refl

-- ---- restored, and row 1

-- two lists of octets are the same
abbrev same_octets : Octets → Octets → Bool
same_octets [] [] = true
same_octets [] (y ∷ m) = false
same_octets (x ∷ l) [] = false
same_octets (x ∷ l) (y ∷ m) = eqb x y && same_octets l m

same_octets_law : (l m : Octets) → same_octets l m ≡ true → l ≡ m
same_octets_law [] [] e = refl
same_octets_law [] (y ∷ m) e = absurd (false≢true e)
same_octets_law (x ∷ l) [] e = absurd (false≢true e)
same_octets_law (x ∷ l) (y ∷ m) e = λ i. eqb-true x y (and_left (eqb x y) _ e) i ∷ same_octets_law l m (and_right (eqb x y) _ e) i

-- where all is restored, each has its default
restored_row : (id : ℕ) (r : Row) → row_of id ≡ Some r → value_in defaults r ≡ default_of r
unfolding table value_in cut
restored_row id r e = same_octets_law _ _ (found_all (λ q. same_octets (value_in defaults q) (default_of q)) refl id r e)

pub defaults_restored : (id : ℕ) → known_row (row_of id) ≡ true → value_of defaults (row_of id) ≡ all_restored id
defaults_restored id k = go (row_of id) refl k
  where
    go : (o : Option Row) → row_of id ≡ o → known_row o ≡ true → value_of defaults o ≡ default_by o
    go None e n = absurd (false≢true n)
    go (Some r) e n = restored_row id r e

-- ---- row 1

-- row 1 of the parameter with an ID, for all of them
abbrev pub EachOk : Octets → Type 0
EachOk b = (id : ℕ) (r : Row) → row_of id ≡ Some r → row_ok b r ≡ true

pub one_ok : (i : ℕ) (v b : Octets) → length b ≡ config_size → EachOk b → EachOk (set_one i v b)
one_ok i v b l h id q k = go (row_of i) refl
  where
    go : (o : Option Row) → row_of i ≡ o → row_ok (set_found o v b) q ≡ true
    go None e = h id q k
    go (Some r) e = one (acceptable r (settled r v)) refl
      where
        one : (ok : Bool) → acceptable r (settled r v) ≡ ok → row_ok (pick ok (with_value r (settled r v) b) b) q ≡ true
        one false t = h id q k
        one true t = same (eqb i id) refl
          where
            same : (u : Bool) → eqb i id ≡ u → row_ok (with_value r (settled r v) b) q ≡ true
            same true u =
                ap (row_ok (with_value r (settled r v) b)) (sym (one_row i id r q e k (eqb-true i id u)))
                ∙ row_there r (settled r v) b (fits i r (settled r v) b e l t) t
            same false u =
                row_kept r q (settled r v) b (acceptable_short r (settled r v) t) (apart i id r q e k (eqb-false i id u))
                ∙ h id q k

pub set_ok : (m b : Octets) → length b ≡ config_size → EachOk b → (n : ℕ) → EachOk (set_first b m n)
unfolding set_first
set_ok m b l h zero = h
set_ok m b l h (suc n) = one_ok (id_in m n) (param_in m n) (set_first b m n) (set_long b m n ∙ l) (set_ok m b l h n)

-- ---- row 1 of all values is row 1 of each

rows_each : (b : Octets) (n : ℕ) → rows_ok b n ≡ true → (i : ℕ) → i < n → row_ok b (row_at i) ≡ true
unfolding rows_ok
rows_each b zero e i h = absurd (not-suc-le-zero h)
rows_each b (suc n) e i h = go (leb (suc i) n) refl (λ j. rows_each b n (and_left (rows_ok b n) _ e) i j)
  where
    go : (t : Bool) → leb (suc i) n ≡ t → (i < n → row_ok b (row_at i) ≡ true) → row_ok b (row_at i) ≡ true
    go true x k = k (leb-true (suc i) n x)
    go false x k = let z : i ≡ n = omega (arith, leb-false (suc i) n x) in rw z (and_right (rows_ok b n) _ e)

rows_all : (b : Octets) → ((i : ℕ) → i < row_count → row_ok b (row_at i) ≡ true) → (n : ℕ) → n ≤ row_count → rows_ok b n ≡ true
unfolding rows_ok
rows_all b f zero h = refl
rows_all b f (suc n) h = rw (rows_all b f n (omega arith), f n (omega arith))

pub parameters_each : (b : Octets) → parameters_ok b ≡ true → EachOk b
parameters_each b e id r k = found_row (λ q. row_ok b q ≡ true) (λ i h. rows_each b row_count e i h) id r k

pub each_parameters : (b : Octets) → EachOk b → parameters_ok b ≡ true
each_parameters b f = rows_all b (λ i h. f (row_at i).id (row_at i) (rows_found i h)) row_count (omega arith)
