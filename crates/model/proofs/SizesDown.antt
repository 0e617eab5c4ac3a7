-- The sizes of everything that a bench holds: down keeps them.
-- Assumes nothing.
use Prim.Native.Nat.{ℕ, ◌+◌, ◌≤◌, ◌<◌}
use native.Mathlib.Omega.{arith}
use mathlib.Core.Path.{◌≡◌, refl}
use mathlib.Core.Bool.{Bool, true, false, ◌&&◌}
use mathlib.Core.List.{List, [], ◌∷◌}
use lib.Dec.{eqb, leb}
use lib.ListN.{length, length-append}
use borrow.Author.Tests.{ltb-false, leb-false}
use Rattle.octets.specs.Octets.{Octets}
use Rattle.state.specs.Judgement.{Judgement}
use Rattle.state.specs.Commands.{aim_in}
use Rattle.packets.specs.Segments.{Segment, more, last}
use Rattle.packets.specs.Reassembly.{Fit}
use Rattle.model.specs.Kinds.{Profile}
use Rattle.state.specs.Runs.{control_limit}
use Rattle.state.specs.Profile.{ProfileWithin}
use Rattle.nfcc.specs.Controller.{judge_of}
use Rattle.messages.specs.Layout.{notice_message}
use Rattle.state.proofs.Chains.{on}
use Rattle.model.specs.Connection.{with_controller, stored}
use Rattle.wires.specs.Meaning.{Meaning, datum, control, junk, meaning}
use Rattle.model.specs.State.{State, is_open, at, with_conns, with_down, with_asking}
use Rattle.model.specs.Effects.{down, Effect, taken}
use Rattle.model.specs.Refusals.{first, is_nil, full}
use Rattle.model.specs.Runs.{run_for, run_after, whole_by}
use Rattle.ends.specs.Changes.{change_by}
use Rattle.model.specs.calls.Down.{answers, deciding, answering, arriving, taking_down, too_tight, first_full, needs_two, store_full}
use Rattle.model.specs.Bench.{rules, act}
use Rattle.model.specs.Observer.{Ledger}
use Rattle.model.specs.invariant.Commands.{Aims}
use Rattle.model.specs.invariant.Bench.{Fine}
use Rattle.model.proofs.Cases.{clash}
use Rattle.model.proofs.Needs.{need}
use Rattle.nfcc.proofs.Verdicts.{Fits, judge_fits, after_steady}
use Rattle.model.proofs.Messages.{Answerable, judge_answerable, notices_few}
use Rattle.model.proofs.Order.{way_low, way_small}
use Rattle.model.proofs.DownAnswer.{verdict_ok}
use Rattle.model.proofs.Said.{said_append, answers_said}
use Rattle.model.proofs.Small.{Small, grown_within, finished_fits, more_none, at_small, change_controller, open_known}

-- at most two packets answer a command
answers_few : (gid oid : ℕ) (p : Profile) (b m : Octets) (v : Judgement) → length (answers gid oid p b m v) ≤ 2
answers_few gid oid p b m v = omega (arith, notices_few (notice_message v))

-- a whole command is answered
deciding_small : (s : State) (gid oid aim : ℕ) (o : Octets) (v : Judgement) → ProfileWithin s.profile → Fits gid oid aim s.profile v → Answerable s.config o v
    → gid < 16 → oid < 64 → full 2 s.up ≡ false → Small s → Small (deciding gid oid o v s).next
deciding_small s gid oid aim o v l f a low small fits m =
    record {
      downs = m.downs;
      ups = rw length-append (omega (arith, ltb-false 16 (length s.up + 2) fits, answers_few gid oid s.profile s.config o v));
      said = said_append s.profile s.up (answers gid oid s.profile s.config o v) m.said (answers_said s.profile gid oid aim s.config o v l f a low small);
      conns = λ d. change_controller d (change_by v d) (s.conns d) (verdict_ok gid oid aim s.profile v f d) (m.conns d);
      steady = after_steady gid oid aim s.profile s.controller v f m.steady;
      size_least = m.size_least;
      size_most = m.size_most;
      hearing = m.hearing;
      asking = m.asking;
    }

module _ (s : State) (aim : ℕ) (l : ℕ → Ledger) (p : Octets) (w : List Octets) (f : Fine (with_down (p ∷ w) s) aim l) (m : Small (with_down (p ∷ w) s)) where
  abbrev Leads : Effect → Type 0
  Leads e = Small e.next

  -- the packet is taken off the wire
  off : Small (with_down w s)
  off =
      record {
        downs = omega (arith, m.downs);
        ups = m.ups;
        said = m.said;
        conns = m.conns;
        steady = m.steady;
        size_least = m.size_least;
        size_most = m.size_most;
        hearing = m.hearing;
        asking = m.asking;
      }

  -- and joins the run of a command
  joined : (gid oid : ℕ) (x : Segment) → Small (with_asking (run_after s.asking 1 gid oid x) (with_down w s))
  joined gid oid x =
      record {
        downs = omega (arith, m.downs);
        ups = m.ups;
        said = m.said;
        conns = m.conns;
        steady = m.steady;
        size_least = m.size_least;
        size_most = m.size_most;
        hearing = m.hearing;
        asking = grown_within control_limit (run_for s.asking 1 gid oid) x;
      }

  answering_small : (gid oid : ℕ) (x : Segment) (ms : List Octets) (b : Bool) → Fit control_limit ms → gid < 16 → oid < 64 → full 2 s.up ≡ false
      → Small (answering gid oid ms b (with_asking (run_after s.asking 1 gid oid x) (with_down w s))).next
  unfolding Fit
  answering_small gid oid x [] b short low small fits = joined gid oid x
  answering_small gid oid x (o ∷ ms) b short low small fits =
      let z = with_asking (run_after s.asking 1 gid oid x) (with_down w s) in
      deciding_small z gid oid (aim_in o) o (judge_of s.profile s.controller (is_open z) gid oid o) f.limits
      (judge_fits s.profile s.controller (is_open z) gid oid o)
      (judge_answerable s.profile s.controller (is_open z) gid oid s.config o f.config short.0) low small fits (joined gid oid x)

  store_small : (c : ℕ) → is_open s c ≡ true → (is_open s c && leb 8 (length (s.conns c).controller.store)) ≡ false
      → Small (with_conns (at c (λ k. with_controller (stored p k.controller) k) s.conns) (with_down w s))
  store_small c o fits =
      record {
        downs = omega (arith, m.downs);
        ups = m.ups;
        said = m.said;
        conns =
            at_small c (λ k. with_controller (stored p k.controller) k) s.conns (open_known c (s.conns c) (m.conns c) o) (m.conns c).host
            (record {
              stored = rw length-append (omega (arith, leb-false 8 (length (s.conns c).controller.store) (rw o at fits)));
              speech = (m.conns c).controller.speech;
              reassembly = (m.conns c).controller.reassembly;
            })
            m.conns;
        steady = m.steady;
        size_least = m.size_least;
        size_most = m.size_most;
        hearing = m.hearing;
        asking = m.asking;
      }

  arriving_small : (q : Meaning) → meaning p ≡ q → (needs_two q && full 2 s.up) ≡ false → store_full s q ≡ false
      → Small (arriving q p (with_down w s)).next
  arriving_small (datum c n x) means two room = on Leads (is_open s c) (λ o. store_small c o room) (λ o. off)
  arriving_small (control mt gid oid (more b)) means two room =
      on Leads (eqb mt 1)
      (λ e. rw (more_none control_limit (run_for s.asking 1 gid oid) b) (joined gid oid (more b)))
      (λ e. off)
  arriving_small (control mt gid oid (last b)) means two room =
      on Leads (eqb mt 1)
      (λ e. answering_small gid oid (last b) (whole_by s.asking 1 gid oid (last b)) _ (finished_fits control_limit (run_for s.asking 1 gid oid) (last b))
      (way_low (Aims aim) s.asking p w mt gid oid (last b) means e f.way) (way_small (Aims aim) s.asking p w mt gid oid (last b) means e f.way)
      (rw e at two))
      (λ e. off)
  arriving_small junk means two room = off

pub down_small : (s : State) (aim : ℕ) (l : ℕ → Ledger) → first (rules down s) ≡ taken → Fine s aim l → Small s → Small (act down s).next
down_small s aim l t f m = go s.down (need 4 (rules down s) t) (need 8 (rules down s) t) (need 12 (rules down s) t) f m
  where
    go : (w : List Octets) → too_tight s w ≡ false → is_nil w ≡ false → first_full s w ≡ false → Fine (with_down w s) aim l → Small (with_down w s)
        → Small (taking_down w s).next
    go [] two e room f m = clash refl e
    go (p ∷ w) two e room f m = arriving_small s aim l p w f m (meaning p) refl two room
