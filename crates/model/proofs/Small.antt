-- The sizes that a bench may have, as an invariant: one connection, the bench. That each call keeps it is
-- in Sizes.
-- Assumes nothing.
use Prim.Native.Nat.{ℕ, zero, suc, ◌+◌, ◌≤◌}
use native.Mathlib.Omega.{arith}
use mathlib.Core.Path.{◌≡◌, refl, ap}
use mathlib.Core.Logic.{inl}
use mathlib.Core.Bool.{Bool, true, false}
use mathlib.Core.List.{List, []}
use lib.Dec.{ltb}
use lib.ListN.{length, drop, length-append, length-take, length-drop}
use borrow.Author.Tests.{ltb-false}
use Rattle.octets.specs.Octets.{Octets, pick}
use Rattle.packets.specs.Segments.{Segment, more, last, segments_within, segments}
use Rattle.packets.specs.Reassembly.{Run, run, lost, grown, finished, Fit}
use Rattle.model.specs.Kinds.{Terms, Profile}
use Rattle.state.specs.Conn.{terms_of}
use Rattle.state.specs.Runs.{data_limit, control_limit}
use Rattle.state.specs.Profile.{TermsWithin, ProfileWithin}
use Rattle.state.proofs.Chains.{on}
use Rattle.state.proofs.Steady.{Steady}
use Rattle.model.specs.Connection.{Connection, HostEnd, ControllerEnd, with_host, with_controller, closed}
use Rattle.model.specs.State.{State, cold, at}
use Rattle.model.specs.Refusals.{no_conn}
use Rattle.ends.specs.Changes.{Change, stays, opens, closes, gives}
use Rattle.model.specs.Changes.{at_controller, at_host}
use Rattle.model.specs.Reachable.{octets_in, RunWithin}
use Rattle.model.proofs.Cases.{clash, each}
use Rattle.model.proofs.Fine.{ChangeOk}
use Rattle.model.proofs.Said.{Said}

-- ---- segments and runs

-- the segments of a message hold its octets
segments_octets : (f size : ℕ) (m : Octets) → octets_in (segments_within f size m) ≡ length m
unfolding segments_within
segments_octets zero size m = omega arith
segments_octets (suc f) size m =
    on (λ (ss : List Segment). octets_in ss ≡ length m) (ltb size (length m))
    (λ e. let rest = segments_octets f size (drop size m) in omega (arith, length-take size m, length-drop size m))
    (λ e. omega arith)

pub sent_octets : (size : ℕ) (m : Octets) → octets_in (segments size m) ≡ length m
unfolding segments
sent_octets size m = segments_octets (length m) size m

-- a run that a segment has joined is within the limit
pub grown_within : (limit : ℕ) (r : Run) (x : Segment) → RunWithin limit (grown limit r x)
grown_within limit (run r) (more b) =
    on (RunWithin limit) (ltb limit (length r + length b)) (λ e. tt) (λ e. omega (arith, ltb-false limit (length r + length b) e, length-append r b))
grown_within limit lost (more b) = tt
grown_within limit (run r) (last b) = omega arith
grown_within limit lost (last b) = omega arith

-- and so is the message that it finishes
pub finished_fits : (limit : ℕ) (r : Run) (x : Segment) → Fit limit (finished limit r x)
unfolding Fit
finished_fits limit (run r) (more b) = tt
finished_fits limit lost (more b) = tt
finished_fits limit (run r) (last b) =
    on (Fit limit) (ltb limit (length r + length b)) (λ e. tt) (λ e. (omega (arith, ltb-false limit (length r + length b) e, length-append r b), tt))
finished_fits limit lost (last b) = tt

-- a segment that more follow finishes nothing
pub more_none : (limit : ℕ) (r : Run) (b : Octets) → finished limit r (more b) ≡ []
more_none limit (run r) b = refl
more_none limit lost b = refl

-- ---- one connection

-- with the profile p, and of the Conn ID d: where it is open at the host it has the profile's terms for it
pub record HostSmall (p : Profile) (d : ℕ) (h : HostEnd) : Type 0 where
  pub hand : octets_in h.hand ≤ data_limit
  pub reassembly : RunWithin data_limit h.run
  pub payload : h.opened ≡ true → h.payload ≡ (terms_of p d).payload
  pub grant : h.opened ≡ true → h.grant ≡ (terms_of p d).credits

-- which are within their limits, as the profile is
pub held_terms : (p : Profile) (d : ℕ) (h : HostEnd) → ProfileWithin p → HostSmall p d h → h.opened ≡ true → TermsWithin h.payload h.grant
held_terms p d h l m o = rw (m.payload o, m.grant o) (l.terms d)

pub record ControllerSmall (k : ControllerEnd) : Type 0 where
  pub stored : length k.store ≤ 8
  pub speech : octets_in k.speech ≤ data_limit
  pub reassembly : RunWithin data_limit k.run

pub record ConnSmall (p : Profile) (d : ℕ) (k : Connection) : Type 0 where
  pub host : HostSmall p d k.host
  pub controller : ControllerSmall k.controller
  pub other : no_conn d ≡ true → k ≡ closed

closed_small : (p : Profile) (d : ℕ) → ConnSmall p d closed
closed_small p d =
    record {
      host = record { hand = omega arith; reassembly = omega arith; payload = λ e. clash e refl; grant = λ e. clash e refl };
      controller = record { stored = omega arith; speech = omega arith; reassembly = omega arith };
      other = λ e. refl;
    }

-- one of the five changes
pub at_small : {p : Profile} (c : ℕ) (f : Connection → Connection) (g : ℕ → Connection) → no_conn c ≡ false → HostSmall p c (f (g c)).host → ControllerSmall (f (g c)).controller
    → ((d : ℕ) → ConnSmall p d (g d)) → (d : ℕ) → ConnSmall p d (at c f g d)
at_small {p} c f g five h k r =
    each c (λ d b. ConnSmall p d (pick b (f (g d)) (g d))) (record { host = h; controller = k; other = λ e. clash e five }) r

-- what opens, closes and is credited, at either end
pub change_controller : {p : Profile} (d : ℕ) (c : Change) (k : Connection) → ChangeOk p d c → ConnSmall p d k → ConnSmall p d (with_controller (at_controller c k.controller) k)
change_controller d stays k o m = m
change_controller d (opens t) k o m =
    record { host = m.host; controller = record { stored = omega arith; speech = omega arith; reassembly = omega arith }; other = λ e. clash e o.0 }
change_controller {p} d closes k o m =
    record {
      host = m.host;
      controller = (closed_small p d).controller;
      other = λ e. ap (λ (x : Connection). with_controller closed.controller x) (m.other e);
    }
change_controller d (gives n) k o m = m

pub change_host : {p : Profile} (d : ℕ) (c : Change) (k : Connection) → ChangeOk p d c → ConnSmall p d k → ConnSmall p d (with_host (at_host c k.host) k)
change_host d stays k o m = m
change_host d (opens t) k o m =
    record {
      host = record { hand = omega arith; reassembly = omega arith; payload = λ e. ap (λ (t : Terms). t.payload) o.1; grant = λ e. ap (λ (t : Terms). t.credits) o.1 };
      controller = m.controller;
      other = λ e. clash e o.0;
    }
change_host {p} d closes k o m =
    record {
      host = (closed_small p d).host;
      controller = m.controller;
      other = λ e. ap (λ (x : Connection). with_host closed.host x) (m.other e);
    }
change_host d (gives n) k o m =
    record {
      host = record { hand = m.host.hand; reassembly = m.host.reassembly; payload = m.host.payload; grant = m.host.grant };
      controller = m.controller;
      other = λ e. ap (λ (x : Connection). with_host (at_host (gives n) x.host) x) (m.other e);
    }

-- a connection that is open at an end is one of the five
pub held_known : {p : Profile} (d : ℕ) (k : Connection) → ConnSmall p d k → k.host.opened ≡ true → no_conn d ≡ false
held_known d k m o = go (no_conn d) refl
  where
    go : (b : Bool) → no_conn d ≡ b → b ≡ false
    go true e = clash o (ap (λ (x : Connection). x.host.opened) (m.other e))
    go false e = refl

pub open_known : {p : Profile} (d : ℕ) (k : Connection) → ConnSmall p d k → k.controller.opened ≡ true → no_conn d ≡ false
open_known d k m o = go (no_conn d) refl
  where
    go : (b : Bool) → no_conn d ≡ b → b ≡ false
    go true e = clash o (ap (λ (x : Connection). x.controller.opened) (m.other e))
    go false e = refl

-- ---- the bench

pub record Small (s : State) : Type 0 where
  pub downs : length s.down ≤ 16
  pub ups : length s.up ≤ 16
  pub said : Said s.profile s.up
  pub conns : (d : ℕ) → ConnSmall s.profile d (s.conns d)
  pub steady : Steady s.controller
  pub size_least : 32 ≤ s.host.size
  pub size_most : s.host.size ≤ 255
  pub hearing : RunWithin control_limit s.hearing.run
  pub asking : RunWithin control_limit s.asking.run

pub cold_small : (p : Profile) → Small (cold p)
unfolding Said
cold_small p =
    record {
      downs = omega arith;
      ups = omega arith;
      said = tt;
      conns = λ d. closed_small p d;
      steady = record { given = inl refl; pairs = omega arith; places = refl };
      size_least = omega arith;
      size_most = omega arith;
      hearing = omega arith;
      asking = omega arith;
    }
