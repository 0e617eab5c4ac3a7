-- The credits of a record are those of the state that it stands for.
-- Assumes nothing.
use Prim.Native.Nat.{ℕ}
use mathlib.Core.Path.{subst}
use native.Mathlib.Omega.{arith}
use lib.ListN.{get_or}
use borrow.Author.Tests.{lt-leb, leb-false}
use Rattle.octets.specs.Octets.{Octets}
use Rattle.state.specs.Conn.{place_of, conn_of, closed_counts}
use Rattle.state.proofs.Places.{place_conn}
use Rattle.area.specs.Map.{places}
use Rattle.record.specs.Fit.{GrantedCounts, Granted}
use Rattle.model.specs.Grants.{WithinGrants}
use Rattle.views.specs.Kinds.{Record}
use Rattle.views.specs.View.{view}

pub view_granted : (a : Octets) (r : Record) → WithinGrants (view a r) → Granted r
view_granted a r w p l =
    subst (λ (x : ℕ). GrantedCounts (get_or r.ends.conns x closed_counts)) (place_conn p l)
    (let k = w (conn_of p) (lt-leb places (place_of (conn_of p)) (omega (arith, l, place_conn p l))) in record { held = k.held; owed = k.owed })

pub granted_view : (a : Octets) (r : Record) → Granted r → WithinGrants (view a r)
granted_view a r g d five = let k = g (place_of d) (leb-false places (place_of d) five) in record { held = k.held; owed = k.owed }
