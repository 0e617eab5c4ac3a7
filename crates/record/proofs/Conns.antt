-- What holds of every connection after one of them changed, and after all of them did; of a record in which one changed.
-- Assumes nothing.
use Prim.Native.Nat.{ℕ, ◌<◌}
use native.Mathlib.Omega.{arith}
use mathlib.Core.Path.{◌≡◌, refl, sym, ◌∙◌, subst}
use mathlib.Core.Bool.{Bool, true, false}
use mathlib.Core.List.{List}
use lib.ListN.{length, length-set, get_or, set}
use lib.Seq.{get_or-set_same, get_or-set_other}
use lib.Dec.{eqb}
use borrow.Author.Tests.{eqb-true, eqb-false}
use Rattle.record.specs.Kinds.{Counts, Record}
use Rattle.state.specs.Conn.{place_of, conn_of, closed_counts, counts_of}
use Rattle.state.proofs.Places.{place_conn}
use Rattle.area.specs.Map.{places}
use Rattle.record.specs.Fit.{Each, Shape, Fit, FitCounts}
use Rattle.record.specs.Small.{Small, SmallCounts}
use Rattle.record.specs.Plan.{with_conns}

module _ (P : Counts → Type 0) (l : List Counts) where
  -- one of them is k now, the others are as they were
  pub conns_set : (p : ℕ) (k : Counts) → p < length l → P k → Each P l → Each P (set l p k)
  conns_set p k h f others q m = go (eqb q p) refl
    where
      go : (b : Bool) → eqb q p ≡ b → P (get_or (set l p k) q closed_counts)
      go true e =
          subst (λ (x : ℕ). P (get_or (set l p k) x closed_counts)) (sym (eqb-true q p e))
          (subst P (sym (get_or-set_same l p k closed_counts h)) f)
      go false e = subst P (sym (get_or-set_other l p q k closed_counts (eqb-false q p e))) (others q m)

  -- each is another now, and is looked at by its Conn ID
  pub conns_by : (m : List Counts) → ((c : ℕ) → place_of c < places → P (counts_of l c) → P (counts_of m c)) → Each P l → Each P m
  conns_by m step all p h =
      let e = place_conn p h in
      subst (λ (x : ℕ). P (get_or m x closed_counts)) e
      (step (conn_of p) (subst (λ (x : ℕ). x < places) (sym e) h) (subst (λ (x : ℕ). P (get_or l x closed_counts)) (sym e) (all p h)))

-- a record in which one connection's numbers are others now
module _ (r : Record) (c : ℕ) (k : Counts) (place : place_of c < places) (shape : Shape r) where
  there : place_of c < length r.ends.conns
  there = omega (arith, place, shape.conns)

  pub fit_set : FitCounts k → Fit r → Fit (with_conns (set r.ends.conns (place_of c) k) r)
  fit_set h f = record { down = f.down; up = f.up; own = f.own; conns = conns_set FitCounts r.ends.conns (place_of c) k there h f.conns }

  pub small_set : SmallCounts k → Small r → Small (with_conns (set r.ends.conns (place_of c) k) r)
  small_set h s = record { own = s.own; conns = conns_set SmallCounts r.ends.conns (place_of c) k there h s.conns }

  pub shape_set : Shape (with_conns (set r.ends.conns (place_of c) k) r)
  shape_set = record { pairs = shape.pairs; conns = length-set r.ends.conns (place_of c) k ∙ shape.conns }
