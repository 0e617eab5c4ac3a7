-- Connections open and close at the controller, and no octet changes: what the record then stands for.
-- Assumes nothing.
use Prim.Native.Nat.{ℕ, ◌<◌}
use mathlib.Core.Path.{◌≡◌, refl, ◌∙◌, subst}
use mathlib.Core.Bool.{Bool, true, false}
use mathlib.Core.List.{List, []}
use lib.ListN.{length}
use lib.Dec.{eqb}
use borrow.Author.Tests.{eqb-true}
use Rattle.octets.specs.Octets.{Octets, pick, cut}
use Rattle.packets.specs.Segments.{Segment}
use Rattle.calls.specs.Kinds.{Hand, ControllerSide, Counts, Record}
use Rattle.state.specs.Conn.{place_of, counts_of}
use Rattle.ends.specs.Changes.{Change, stays, opens, closes, gives, changed_controller, counts_at_controller, endpoint_by}
use Rattle.area.specs.Map.{places, payload_size, endpoint_at}
use Rattle.area.specs.Ring.{tab, packets_from}
use Rattle.record.specs.Plan.{with_conns, with_endpoint}
use Rattle.model.specs.Connection.{closed_controller, with_controller}
use Rattle.model.specs.State as bench
use Rattle.model.specs.Changes.{at_controller}
use Rattle.views.specs.View.{hand_of, run_of, controller_of, speech_of, view}
use Rattle.views.proofs.Changed.{controllers_all}

-- ---- one side

-- what the endpoint has still to say after a change of its connection: it opens and closes with nothing
abbrev said_by : Change → List Segment → List Segment
said_by stays s = s
said_by (opens t) s = []
said_by closes s = []
said_by (gives n) s = s

changed_side : (x : Change) (p : ℕ) (a : Octets) (k : ControllerSide) (s : List Segment)
    → controller_of p a (changed_controller x k) (said_by x s) ≡ at_controller x (controller_of p a k s)
unfolding run_of packets_from tab cut
changed_side stays p a k s = refl
changed_side (opens t) p a k s = refl
changed_side closes p a k s = refl
changed_side (gives n) p a k s = refl

hand_by_law : (x : Change) (a : Octets) (h : Hand) → hand_of endpoint_at payload_size a (endpoint_by x h) ≡ said_by x (hand_of endpoint_at payload_size a h)
unfolding hand_of
hand_by_law stays a h = refl
hand_by_law (opens t) a h = refl
hand_by_law closes a h = refl
hand_by_law (gives n) a h = refl

said_nothing : (x : Change) → [] ≡ said_by x []
said_nothing stays = refl
said_nothing (opens t) = refl
said_nothing closes = refl
said_nothing (gives n) = refl

-- its message in hand follows connection 0
speech_by : (f : ℕ → Change) (a : Octets) (h : Hand) (d : ℕ) → speech_of a (endpoint_by (f 0) h) d ≡ said_by (f d) (speech_of a h d)
speech_by f a h d = go (eqb 0 d) refl
  where
    go : (b : Bool) → eqb 0 d ≡ b
        → pick b (hand_of endpoint_at payload_size a (endpoint_by (f 0) h)) [] ≡ said_by (f d) (pick b (hand_of endpoint_at payload_size a h) [])
    go true e =
        subst (λ (x : ℕ). hand_of endpoint_at payload_size a (endpoint_by (f 0) h) ≡ said_by (f x) (hand_of endpoint_at payload_size a h)) (eqb-true 0 d e)
        (hand_by_law (f 0) a h)
    go false e = said_nothing (f d)

-- ---- all of them

-- f: what happens to each connection at the controller; to an ID that no connection has, nothing that would open it
pub controllers_changed : (a : Octets) (r : Record) (f : ℕ → Change) (g : Hand) (m : List Counts)
    → length r.ends.conns ≡ 5 → length m ≡ length r.ends.conns
    → ((d : ℕ) → place_of d < places → counts_of m d ≡ counts_at_controller (f d) (counts_of r.ends.conns d))
    → g ≡ endpoint_by (f 0) r.ends.endpoint
    → ((d : ℕ) → (place_of d < places → ⊥) → at_controller (f d) closed_controller ≡ closed_controller)
    → view a (with_conns m (with_endpoint g r))
    ≡ bench.with_conns (λ d. with_controller (at_controller (f d) ((view a r).conns d).controller) ((view a r).conns d)) (view a r)
controllers_changed a r f g m five same counts hand none =
    controllers_all a r g m five same (λ d k. changed_controller (f d) k) (λ d k. at_controller (f d) k) counts
    (λ d k p.
    (λ i. controller_of (place_of d) a (changed_controller (f d) k) (speech_of a (hand i) d))
    ∙ (λ i. controller_of (place_of d) a (changed_controller (f d) k) (speech_by f a r.ends.endpoint d i))
    ∙ changed_side (f d) (place_of d) a k (speech_of a r.ends.endpoint d))
    none
