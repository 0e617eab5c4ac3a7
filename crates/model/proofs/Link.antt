-- What follows from the numbers of one connection: what there is room for, and that the ledger's counts are the connection's.
-- Assumes nothing.
use Prim.Native.Nat.{ℕ, zero, suc, ◌+◌, ◌≤◌, ◌<◌}
use native.Mathlib.Omega.{arith}
use mathlib.Core.Bool.{Bool, true, false, ◌&&◌}
use mathlib.Core.List.{List, ◌++◌}
use mathlib.Core.Path.{◌≡◌, refl, sym}
use lib.Dec.{eqb}
use lib.ListN.{length}
use Rattle.octets.specs.Octets.{pick}
use Rattle.packets.specs.Segments.{Segment}
use Rattle.state.specs.Conn.{flows}
use Rattle.ends.specs.Changes.{Change, stays, opens, closes, gives, credits_of}
use Rattle.model.specs.Connection.{Connection}
use Rattle.model.specs.calls.Report.{held_by}
use Rattle.model.specs.Observer.{Ledger}
use Rattle.model.specs.Claim.{held_in, stored_in, owed_in}
use Rattle.model.specs.invariant.Items.{Item, items_by, up_returned}
use Rattle.model.specs.invariant.Link.{Figures, Debts, Numbers, Good}
use Rattle.model.proofs.Cases.{clash}
use Rattle.model.proofs.Items.{returned_le}
use Rattle.model.proofs.Phases.{has_grant}

-- where it is not open at the host nothing is held
pub held_none : {there here : Bool} {h n g w : ℕ} {u : List Item} → Debts there h n here g w u → there ≡ false → n ≡ 0
held_none q e = omega (arith, q.bound, q.granted e)

module _ {n : Figures} {u : List Item} where
  -- ---- what lies under way to the controller, or is owed, has room at the host

  under_way_le : Numbers n u → n.here ≡ true → flows n.grant ≡ true → n.held + up_returned u + (n.down + n.stored + n.owed) ≤ n.host_grant
  under_way_le g c y = go n.there refl
    where
      go : (b : Bool) → n.there ≡ b → n.held + up_returned u + (n.down + n.stored + n.owed) ≤ n.host_grant
      go true e = omega (arith, (g.live c).sum y, (g.live c).terms.same e, returned_le u)
      go false e = omega (arith, (g.live c).sum y, has_grant n.grant u y (rw (e, c) at g.phase) (g.live c).terms.under_way)

  pub owed_room : Numbers n u → n.here ≡ true → n.held + up_returned u + n.owed ≤ n.host_grant
  owed_room g c = go (flows n.grant) refl
    where
      go : (b : Bool) → flows n.grant ≡ b → n.held + up_returned u + n.owed ≤ n.host_grant
      go true y = omega (arith, under_way_le g c y)
      go false y = omega (arith, g.debts.bound, g.debts.spare y)

  -- ---- what the limits ask of a connection

  -- never more credits than granted at the host, nor owed at the controller
  pub held_le : Numbers n u → n.held ≤ n.host_grant
  held_le g = omega (arith, g.debts.bound)

  pub owed_le : Numbers n u → n.owed ≤ n.grant
  owed_le g = go n.here (flows n.grant) refl refl
    where
      go : (a b : Bool) → n.here ≡ a → flows n.grant ≡ b → n.owed ≤ n.grant
      go false b c y = omega (arith, g.debts.asleep c)
      go true false c y = omega (arith, g.debts.spare y)
      go true true c y = omega (arith, (g.live c).sum y)

  -- while a packet is stored, not all is owed
  pub room_owed : n.here ≡ true → flows n.grant ≡ true → 0 < n.stored → Numbers n u → n.owed < n.grant
  room_owed c y e g = omega (arith, (g.live c).sum y)

-- a change that the host reads keeps it within its grant
pub room_by : {n : Figures} (c : Change) (u : List Item) → Numbers n (items_by c ++ u) → n.held + credits_of c ≤ n.host_grant
room_by stays u g = omega (arith, g.debts.bound)
room_by (opens t) u g = omega (arith, g.debts.bound)
room_by closes u g = omega (arith, g.debts.bound)
room_by (gives n) u g = omega (arith, g.debts.bound)

-- a credit is left where push is not refused with 9
pub credit_left : (g n : ℕ) → (flows g && eqb n 0) ≡ false → flows g ≡ true → 0 < n
credit_left g zero e y = clash (rw y) e
credit_left g (suc n) e y = omega arith

-- ---- the counts of the ledger are the connection's numbers

module _ {loop : Bool} {k : Connection} {d : List Segment} {u : List Item} {l : Ledger} (g : Good loop k d u l) where
  pub held_counted : k.controller.opened ≡ true → flows k.controller.grant ≡ true → held_in l ≡ k.host.held
  held_counted c y = go k.host.opened refl
    where
      go : (b : Bool) → k.host.opened ≡ b → held_in l ≡ k.host.held
      go true e =
          let z : flows k.host.grant ≡ true = rw ((g.numbers.live c).terms.same e) y in
          rw (g.numbers.counts.opened, e) (omega (arith, g.numbers.counts.granted e, g.numbers.counts.flow e z))
      go false e = rw (g.numbers.counts.opened, e) (sym (held_none g.numbers.debts e))

  -- what report shows as held is what is held
  pub held_shown : held_by k.host ≡ k.host.held
  held_shown = go k.host.opened refl
    where
      go : (b : Bool) → k.host.opened ≡ b → pick b k.host.held 0 ≡ k.host.held
      go true e = refl
      go false e = sym (held_none g.numbers.debts e)

  pub stored_counted : k.controller.opened ≡ true → stored_in l ≡ length k.controller.store
  stored_counted c = omega (arith, (g.numbers.live c).counts.stored)

  pub owed_counted : k.controller.opened ≡ true → flows k.controller.grant ≡ true → owed_in l ≡ k.controller.owed
  owed_counted c y = omega (arith, (g.numbers.live c).counts.owed y)
