-- Laws of the table: what is found in it, and the rules that hold of every row.
-- Assumes nothing.
use Prim.Native.Nat.{ℕ, zero, suc, ◌+◌, ◌≤◌, ◌<◌}
use mathlib.Core.Path.{◌≡◌, refl, subst}
use mathlib.Core.Bool.{Bool, true, false, ◌&&◌}
use mathlib.Core.List.{List, [], ◌∷◌}
use native.Mathlib.Nat.{le_of_suc-le-suc, not-suc-le-zero}
use native.Mathlib.Omega.{arith}
use lib.ListN.{length, get_or}
use lib.Dec.{eqb, leb}
use borrow.Author.Tests.{leb-true, eqb-true}
use Rattle.state.proofs.Chains.{and_left, and_right}
use Rattle.std.specs.Prelude.{Some, find, cond, ⊤}
use Rattle.config.specs.declared.table.Row.{Row}
use Rattle.config.specs.Table.{table, row_count, config_size, no_row, row_at, row_of, all_allowed, acceptable, default_of}
use Rattle.config.specs.Stored.{room}

pub table_long : length table ≡ row_count
unfolding table
table_long = refl

-- inside a list the value past its end does not matter
pub any_default : {A : Type 0} (l : List A) (i : ℕ) (d e : A) → i < length l → get_or l i d ≡ get_or l i e
any_default [] i d e h = absurd (not-suc-le-zero h)
any_default (x ∷ l) zero d e h = refl
any_default (x ∷ l) (suc i) d e h = any_default l i d e (le_of_suc-le-suc h)

-- ---- rules of every row, each computed over the whole table

-- a rule that each row of a list passes
abbrev pub every : (Row → Bool) → List Row → Bool
every f [] = true
every f (r ∷ rs) = f r && every f rs

every_at : (f : Row → Bool) (rs : List Row) → every f rs ≡ true → (i : ℕ) → i < length rs → f (get_or rs i no_row) ≡ true
every_at f [] e i h = absurd (not-suc-le-zero h)
every_at f (r ∷ rs) e zero h = and_left _ _ e
every_at f (r ∷ rs) e (suc i) h = every_at f rs (and_right (f r) _ e) i (le_of_suc-le-suc h)

-- its octets are among those of all values
pub row_fits : (i : ℕ) → i < row_count → (row_at i).at + room (row_at i) ≤ config_size
unfolding row_at table
row_fits i h = leb-true _ _ (every_at (λ r. leb (r.at + room r) config_size) table refl i (rw table_long h))

-- ---- the row that an ID finds

-- it has the ID, and what holds of every row of the table holds of it
find_row : (P : Row → Type 0) (rs : List Row) → ((i : ℕ) → i < length rs → P (get_or rs i no_row)) → (id : ℕ) (r : Row)
    → find (λ (q : Row). eqb q.id id) rs ≡ Some r → (r.id ≡ id) × P r
find_row P [] f id r h = absurd (cc)
find_row P (q ∷ rs) f id r h = go (eqb q.id id) refl (find_row P rs (λ i l. f (suc i) (omega arith)) id r) h
  where
    go : (b : Bool) → eqb q.id id ≡ b → (find (λ (q : Row). eqb q.id id) rs ≡ Some r → (r.id ≡ id) × P r)
        → cond b (Some q) (find (λ (q : Row). eqb q.id id) rs) ≡ Some r → (r.id ≡ id) × P r
    go true t k e = let same : q ≡ r = cc in subst (λ (x : Row). (x.id ≡ id) × P x) same (eqb-true q.id id t, f 0 (omega arith))
    go false t k e = k e

pub found_row : (P : Row → Type 0) → ((i : ℕ) → i < row_count → P (row_at i)) → (id : ℕ) (r : Row) → row_of id ≡ Some r → P r
unfolding row_of row_at
found_row P f id r e = (find_row P table (λ i h. f i (rw table_long at h)) id r e).1

pub found_id : (id : ℕ) (r : Row) → row_of id ≡ Some r → r.id ≡ id
unfolding row_of
found_id id r e = (find_row (λ q. ⊤) table (λ i h. tt) id r e).0

-- a rule that each row of the table passes
pub found_all : (f : Row → Bool) → every f table ≡ true → (id : ℕ) (r : Row) → row_of id ≡ Some r → f r ≡ true
unfolding row_at
found_all f e id r h = found_row (λ q. f q ≡ true) (λ i l. every_at f table e i (rw table_long l)) id r h

pub found_fits : (id : ℕ) (r : Row) → row_of id ≡ Some r → r.at + room r ≤ config_size
unfolding table
found_fits id r e = leb-true _ _ (found_all (λ q. leb (q.at + room q) config_size) refl id r e)

pub found_short : (id : ℕ) (r : Row) → row_of id ≡ Some r → r.most ≤ 15
unfolding table
found_short id r e = leb-true _ _ (found_all (λ q. leb q.most 15) refl id r e)

pub found_least : (id : ℕ) (r : Row) → row_of id ≡ Some r → r.least ≤ r.most
unfolding table
found_least id r e = leb-true _ _ (found_all (λ q. leb q.least q.most) refl id r e)

-- every default is acceptable
pub found_default : (id : ℕ) (r : Row) → row_of id ≡ Some r → acceptable r (default_of r) ≡ true
unfolding table acceptable all_allowed
found_default id r e = found_all (λ q. acceptable q (default_of q)) refl id r e

-- every row is found by its ID: one line for each
data Every (P : Row → Type 0) : List Row → Type 0 where
  none : Every P []
  one : {r : Row} {rs : List Row} → P r → Every P rs → Every P (r ∷ rs)

every_row : (P : Row → Type 0) (rs : List Row) → Every P rs → (i : ℕ) → i < length rs → P (get_or rs i no_row)
every_row P [] none i h = absurd (not-suc-le-zero h)
every_row P (r ∷ rs) (one p ps) zero h = p
every_row P (r ∷ rs) (one p ps) (suc i) h = every_row P rs ps i (le_of_suc-le-suc h)

each_found : Every (λ r. row_of r.id ≡ Some r) table
unfolding row_of table
each_found =
    one refl (one refl (one refl (one refl (one refl (one refl (one refl (one refl (one refl (one refl (one refl (one refl
    (one refl (one refl (one refl none))))))))))))))

pub rows_found : (i : ℕ) → i < row_count → row_of (row_at i).id ≡ Some (row_at i)
unfolding row_at
rows_found i h = every_row (λ r. row_of r.id ≡ Some r) table each_found i (rw table_long h)
