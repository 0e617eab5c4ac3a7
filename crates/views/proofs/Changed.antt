-- The numbers of all connections change at once, with those of the endpoint's message, and no octet: each connection is looked at by its
-- Conn ID.
-- Assumes nothing.
use Prim.Native.Nat.{ℕ, ◌<◌}
use native.Mathlib.Decide.{dec_lt}
use native.Mathlib.Omega.{arith}
use mathlib.Core.Path.{◌≡◌, refl, sym, ap, ◌∙◌, subst}
use mathlib.Core.Bool.{Bool, true, false}
use mathlib.Core.List.{List, []}
use lib.ListN.{length}
use lib.Dec.{eqb}
use borrow.Author.Tests.{eqb-true}
use Rattle.octets.specs.Octets.{Octets, pick, cut}
use Rattle.views.specs.Kinds.{Hand, ControllerSide, Counts, Record}
use Rattle.state.specs.Conn.{place_of, closed_counts, counts_of}
use Rattle.state.proofs.Conns.{past_five}
use Rattle.area.specs.Map.{places, endpoint_at, payload_size}
use Rattle.area.specs.Ring.{tab, packets_from}
use Rattle.record.specs.Plan.{with_conns, with_endpoint}
use Rattle.model.specs.Connection.{ControllerEnd, Connection, closed, closed_controller, with_controller}
use Rattle.model.specs.State as bench
use Rattle.views.specs.View.{hand_of, run_of, host_of, controller_of, connection_of, speech_of, conns_of, view}

-- ---- an ID that no connection has

-- the endpoint speaks on connection 0, which has a place
silent : (a : Octets) (h : Hand) (d : ℕ) → (place_of d < places → ⊥) → speech_of a h d ≡ []
unfolding place_of
silent a h d past = go (eqb 0 d) refl
  where
    go : (b : Bool) → eqb 0 d ≡ b → pick b (hand_of endpoint_at payload_size a h) [] ≡ []
    go true e = absurd (past (subst (λ (x : ℕ). place_of x < places) (eqb-true 0 d e) (omega arith)))
    go false e = refl

closed_octets : (p : ℕ) (a : Octets) → connection_of p a closed_counts [] ≡ closed
unfolding hand_of run_of packets_from tab cut
closed_octets p a = refl

-- stands for a closed one
pub none_closed : (a : Octets) (h : Hand) (l : List Counts) (d : ℕ) → length l ≡ 5 → (place_of d < places → ⊥) → conns_of a h l d ≡ closed
none_closed a h l d five past =
    (λ i. connection_of (place_of d) a (past_five l (place_of d) five past i) (silent a h d past i)) ∙ closed_octets (place_of d) a

-- ---- all of them

module _ (a : Octets) (h g : Hand) (l m : List Counts) (five : length l ≡ 5) (same : length m ≡ length l) where
  -- each becomes what f makes of it, which leaves a closed one closed where there is no connection
  pub conns_all : (f : ℕ → Connection → Connection)
      → ((d : ℕ) → place_of d < places → conns_of a g m d ≡ f d (conns_of a h l d))
      → ((d : ℕ) → (place_of d < places → ⊥) → f d closed ≡ closed)
      → conns_of a g m ≡ (λ d. f d (conns_of a h l d))
  conns_all f each none i d = go (dec_lt (place_of d) 5) i
    where
      go : Dec (place_of d < places) → conns_of a g m d ≡ f d (conns_of a h l d)
      go (yes p) = each d p
      go (no p) = none_closed a g m d (same ∙ five) p ∙ sym (none d p) ∙ sym (ap (f d) (none_closed a h l d five p))

-- the controller's side of each: k is what becomes of its numbers, and f of what they stand for
pub controllers_all : (a : Octets) (r : Record) (g : Hand) (m : List Counts) → length r.ends.conns ≡ 5 → length m ≡ length r.ends.conns
    → (k : ℕ → ControllerSide → ControllerSide) (f : ℕ → ControllerEnd → ControllerEnd)
    → ((d : ℕ) → place_of d < places → counts_of m d ≡ record { host = (counts_of r.ends.conns d).host; controller = k d (counts_of r.ends.conns d).controller })
    → ((d : ℕ) (x : ControllerSide) → place_of d < places → controller_of (place_of d) a (k d x) (speech_of a g d) ≡ f d (controller_of (place_of d) a x (speech_of a r.ends.endpoint d)))
    → ((d : ℕ) → (place_of d < places → ⊥) → f d closed_controller ≡ closed_controller)
    → view a (with_conns m (with_endpoint g r))
    ≡ bench.with_conns (λ d. with_controller (f d ((view a r).conns d).controller) ((view a r).conns d)) (view a r)
controllers_all a r g m five same k f counts side none i =
    bench.with_conns
    (conns_all a r.ends.endpoint g r.ends.conns m five same (λ d c. with_controller (f d c.controller) c)
    (λ d p.
    (λ j. connection_of (place_of d) a (counts d p j) (speech_of a g d))
    ∙ (λ j. record { host = host_of (place_of d) a (counts_of r.ends.conns d).host; controller = side d (counts_of r.ends.conns d).controller p j }))
    (λ d p j. with_controller (none d p j) closed) i)
    (view a r)
