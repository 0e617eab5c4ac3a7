-- Conn IDs and places undo one another.
-- Assumes nothing.
use Prim.Native.Nat.{ℕ, zero, suc, ◌+◌, ◌≤◌, ◌<◌}
use native.Mathlib.Omega.{arith}
use mathlib.Core.Path.{◌≡◌, refl, sym, ap, subst, ◌∙◌}
use mathlib.Core.Bool.{Bool, true, false}
use lib.Dec.{eqb}
use borrow.Author.Tests.{eqb-true}
use Rattle.octets.specs.Octets.{pick}
use Rattle.state.specs.Conn.{place_of, conn_of}

pub place_conn : (p : ℕ) → p < 5 → place_of (conn_of p) ≡ p
unfolding place_of conn_of
place_conn zero h = refl
place_conn (suc zero) h = refl
place_conn (suc (suc zero)) h = refl
place_conn (suc (suc (suc zero))) h = refl
place_conn (suc (suc (suc (suc zero)))) h = refl
place_conn (suc (suc (suc (suc (suc p))))) h = absurd (omega arith)

-- a place is that of the one Conn ID that was looked up, or none
on_place : (c n k : ℕ) {rest : ℕ} → conn_of k ≡ n → (rest < 5 → conn_of rest ≡ c) → pick (eqb c n) k rest < 5 → conn_of (pick (eqb c n) k rest) ≡ c
on_place c n k {rest} e f h = go (eqb c n) refl h
  where
    go : (b : Bool) → eqb c n ≡ b → pick b k rest < 5 → conn_of (pick b k rest) ≡ c
    go true t h = e ∙ sym (eqb-true c n t)
    go false t h = f h

pub conn_place : (c : ℕ) → place_of c < 5 → conn_of (place_of c) ≡ c
unfolding place_of conn_of
conn_place c h = on_place c 0 0 refl (on_place c 2 1 refl (on_place c 3 2 refl (on_place c 4 3 refl (on_place c 5 4 refl (λ l. absurd (omega arith)))))) h

-- what holds of the five connections holds of every Conn ID that has a place
pub each_conn : (P : ℕ → Type 0) → P 0 → P 2 → P 3 → P 4 → P 5 → (c : ℕ) → place_of c < 5 → P c
unfolding conn_of
each_conn P u v w x y c h = subst P (conn_place c h) (go (place_of c) h)
  where
    go : (p : ℕ) → p < 5 → P (conn_of p)
    go zero l = u
    go (suc zero) l = v
    go (suc (suc zero)) l = w
    go (suc (suc (suc zero))) l = x
    go (suc (suc (suc (suc zero)))) l = y
    go (suc (suc (suc (suc (suc p))))) l = absurd (omega arith)

-- a dynamic connection has a place
pub dynamic_place : (c : ℕ) → 2 ≤ c → c ≤ 5 → place_of c < 5
unfolding place_of
dynamic_place zero low high = absurd (omega arith)
dynamic_place (suc zero) low high = absurd (omega arith)
dynamic_place (suc (suc zero)) low high = omega arith
dynamic_place (suc (suc (suc zero))) low high = omega arith
dynamic_place (suc (suc (suc (suc zero)))) low high = omega arith
dynamic_place (suc (suc (suc (suc (suc zero))))) low high = omega arith
dynamic_place (suc (suc (suc (suc (suc (suc n)))))) low high = absurd (omega arith)

-- two connections have two places
pub places_differ : (c d : ℕ) → place_of c < 5 → (c ≡ d → ⊥) → place_of c ≡ place_of d → ⊥
places_differ c d h ne e = ne (sym (conn_place c h) ∙ ap conn_of e ∙ conn_place d (subst (λ (p : ℕ). p < 5) e h))

-- Conn IDs ascend with their places
pub conn_suc : (p : ℕ) → p < 4 → conn_of (suc p) ≡ 2 + p
unfolding conn_of
conn_suc zero h = refl
conn_suc (suc zero) h = refl
conn_suc (suc (suc zero)) h = refl
conn_suc (suc (suc (suc zero))) h = refl
conn_suc (suc (suc (suc (suc p)))) h = absurd (omega arith)
