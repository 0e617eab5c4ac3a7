-- Credits inside a data packet: no more is carried than is owed, nor than the field holds.
-- Assumes nothing.
use Prim.Native.Nat.{ℕ, ◌≤◌}
use native.Mathlib.Decide.{dec_le}
use native.Mathlib.Omega.{arith}
use mathlib.Core.Bool.{Bool, true, false, ◌&&◌}
use lib.Dec.{ltb}
use borrow.Author.Tests.{lt-ltb, le-ltb}
use Rattle.octets.specs.Octets.{pick}
use Rattle.state.specs.Conn.{flows, owing, carriable, SumsWrap}

module _ (owed : ℕ) where
  carriable_owed : carriable owed ≤ owed
  unfolding carriable
  carriable_owed = go (dec_le owed 3)
    where
      go : Dec (owed ≤ 3) → pick (ltb 3 owed) 3 owed ≤ owed
      go (yes e) = rw (le-ltb 3 owed e) (omega arith)
      go (no n) = rw (lt-ltb 3 owed (omega arith)) (omega arith)

  pub carriable_few : carriable owed ≤ 3
  unfolding carriable
  carriable_few = go (dec_le owed 3)
    where
      go : Dec (owed ≤ 3) → pick (ltb 3 owed) 3 owed ≤ 3
      go (yes e) = rw (le-ltb 3 owed e) e
      go (no n) = rw (lt-ltb 3 owed (omega arith)) (omega arith)

module _ (opened : Bool) (grant owed : ℕ) where
  owing_owed : owing opened grant owed ≤ owed
  owing_owed = go (opened && flows grant)
    where
      go : (b : Bool) → pick b owed 0 ≤ owed
      go true = omega arith
      go false = omega arith

  pub carried_owed : carriable (owing opened grant owed) ≤ owed
  carried_owed = omega (arith, carriable_owed (owing opened grant owed), owing_owed)

-- ---- a sum of credits

pub sums_wrap : SumsWrap
sums_wrap held n = record { fits = λ h. omega (arith, h); wraps = λ a b h. omega (arith, a, b, h) }
