-- The record after a verdict: it is one that row 1 lets pass, of octets, and stands for what the model decides.
-- Assumes nothing.
use Prim.Native.Nat.{ℕ, ◌<◌}
use native.Mathlib.Omega.{arith}
use mathlib.Core.Path.{◌≡◌, refl, sym, ◌∙◌, subst}
use lib.Dec.{eqb}
use borrow.Author.Tests.{eqb-true}
use Rattle.std.specs.Prelude.{Ok, Err}
use Rattle.octets.specs.Octets.{Octets}
use Rattle.state.specs.Judgement.{Judgement}
use Rattle.state.specs.Commands.{aim_in}
use Rattle.octets.specs.Octal.{Octal}
use Rattle.calls.specs.Kinds.{Record, Profile, Controller, Pairs, Rf}
use Rattle.calls.specs.Kinds.verdict as verdict
use Rattle.state.specs.Conn.{place_of, counts_of, open_at}
use Rattle.state.specs.Radio.{is_idle}
use Rattle.state.proofs.Chains.{on}
use Rattle.state.proofs.Places.{dynamic_place}
use Rattle.state.proofs.SmallVerdicts.{SmallVerdict}
use Rattle.state.proofs.Steady.{Steady}
use Rattle.nfcc.specs.Controller.{turned, controller_after, conns_after, endpoint_after}
use Rattle.nfcc.proofs.Verdicts.{Fits, judge_fits, after_steady, judge_small}
use Rattle.ends.specs.Changes.{Change, change_by, counts_at_controller}
use Rattle.ends.specs.Steps.{ends_after, verdict_of}
use Rattle.ends.proofs.Changes.{counts_after, length_after, endpoint_after_law}
use Rattle.area.specs.Map.{places}
use Rattle.record.specs.Writing.{rf_octets, pairs_octets}
use Rattle.record.specs.Fit.{Shape, Fit, FitHand, FitCounts}
use Rattle.record.specs.Small.{SmallCounts, Small}
use Rattle.record.specs.Plan.{with_ends}
use Rattle.record.proofs.Conns.{conns_by}
use Rattle.record.proofs.Controllers.{steady_fits, fits_steady}
use Rattle.record.proofs.Small.{SmallController, profile_terms, controller_parts, controller_octal, bare_octal, chosen_octal, none_octal}
use Rattle.views.specs.View.{view}
use Rattle.views.specs.Moves.{Sound}
use Rattle.model.specs.Connection.{closed_controller, with_controller}
use Rattle.model.specs.State as bench
use Rattle.model.specs.Changes.{at_controller}
use Rattle.calls.proofs.ControllerChange.{changed_fit, SmallChange, changed_small, endpoint_fit}
use Rattle.calls.proofs.ControllerConns.{controllers_changed}

-- ---- what a verdict does

change_small : (v : Judgement) → SmallVerdict v → (d : ℕ) → SmallChange (change_by v d)
change_small (Err status) s d = tt
change_small (Ok (verdict.Resets type)) s d = tt
change_small (Ok verdict.Initialises) s d = tt
change_small (Ok (verdict.Opens c t)) s d = on SmallChange (eqb c d) (λ _. s.1.credits) (λ _. tt)
change_small (Ok (verdict.Closes c)) s d = on SmallChange (eqb c d) (λ _. tt) (λ _. tt)
change_small (Ok (verdict.Turns rf)) s d = tt
change_small (Ok (verdict.Selects pair)) s d = tt
change_small (Ok (verdict.Deactivates type rf)) s d = on SmallChange (eqb 0 d) (λ _. tt) (λ _. tt)
change_small (Ok verdict.SetsConfig) s d = tt
change_small (Ok verdict.GetsConfig) s d = tt

-- what it opens is a connection that there is
abbrev Leaves : Change → Type 0
Leaves x = at_controller x closed_controller ≡ closed_controller

none_opens : (gid oid aim : ℕ) (p : Profile) (v : Judgement) → Fits gid oid aim p v → (d : ℕ) → (place_of d < places → ⊥) → Leaves (change_by v d)
none_opens gid oid aim p (Err status) f d h = refl
none_opens gid oid aim p (Ok (verdict.Resets type)) f d h = refl
none_opens gid oid aim p (Ok verdict.Initialises) f d h = refl
none_opens gid oid aim p (Ok (verdict.Opens c t)) f d h =
    on Leaves (eqb c d)
    (λ e. absurd (h (subst (λ (x : ℕ). place_of x < places) (eqb-true c d e) (dynamic_place c f.2 f.3))))
    (λ _. refl)
none_opens gid oid aim p (Ok (verdict.Closes c)) f d h = on Leaves (eqb c d) (λ _. refl) (λ _. refl)
none_opens gid oid aim p (Ok (verdict.Turns rf)) f d h = refl
none_opens gid oid aim p (Ok (verdict.Selects pair)) f d h = refl
none_opens gid oid aim p (Ok (verdict.Deactivates type rf)) f d h = on Leaves (eqb 0 d) (λ _. refl) (λ _. refl)
none_opens gid oid aim p (Ok verdict.SetsConfig) f d h = refl
none_opens gid oid aim p (Ok verdict.GetsConfig) f d h = refl

-- ---- the controller's own octets

turned_small : (k : Controller) (rf : Rf) → Octal (rf_octets rf) → SmallController k → SmallController (turned k rf)
turned_small k rf o s =
    record { given = s.given; rf = o; pairs = on (λ (ps : Pairs). Octal (pairs_octets ps)) (is_idle rf) (λ _. none_octal) (λ _. s.pairs) }

after_small : (k : Controller) (v : Judgement) → SmallVerdict v → SmallController k → SmallController (controller_after k v)
unfolding controller_after
after_small k (Err status) w s = s
after_small k (Ok (verdict.Resets type)) w s = record { given = omega arith; rf = bare_octal _ tt; pairs = none_octal }
after_small k (Ok verdict.Initialises) w s = record { given = s.given; rf = s.rf; pairs = s.pairs }
after_small k (Ok (verdict.Opens c t)) w s = record { given = w.0; rf = s.rf; pairs = s.pairs }
after_small k (Ok (verdict.Closes c)) w s = s
after_small k (Ok (verdict.Turns rf)) w s = turned_small k rf (bare_octal rf w) s
after_small k (Ok (verdict.Selects pair)) w s = turned_small k _ (chosen_octal pair w.0 w.1) s
after_small k (Ok (verdict.Deactivates type rf)) w s = turned_small k rf (bare_octal rf w.1) s
after_small k (Ok verdict.SetsConfig) w s = s
after_small k (Ok verdict.GetsConfig) w s = s

-- ---- the record after a command m was decided

module _ (a : Octets) (t : Record) (s : Sound a t) (small : Small t) (gid oid : ℕ) (m : Octets) (o : Octal m) where
  abbrev v : Judgement
  v = verdict_of t.ends gid oid m

  abbrev pub decided_record : Record
  decided_record = with_ends (ends_after t.ends v) t

  fits : Fits gid oid (aim_in m) t.ends.profile v
  fits = judge_fits t.ends.profile t.ends.controller (open_at t.ends.conns) gid oid m

  pub verdict_small : SmallVerdict v
  verdict_small =
      judge_small t.ends.profile t.ends.controller (open_at t.ends.conns) m o (profile_terms t.ends.profile small.own.profile) gid oid

  counts : (d : ℕ) → place_of d < places → counts_of (conns_after t.ends.conns v) d ≡ counts_at_controller (change_by v d) (counts_of t.ends.conns d)
  counts d p = counts_after t.ends.conns d s.shape.conns p v

  steady_after : Steady (controller_after t.ends.controller v)
  steady_after =
      after_steady gid oid (aim_in m) t.ends.profile t.ends.controller v fits
      (fits_steady t.ends.controller s.fit.own.controller s.shape.pairs)

  pub decided_shape : Shape decided_record
  decided_shape = record { pairs = steady_after.places; conns = length_after t.ends.conns v ∙ s.shape.conns }

  pub decided_fit : Fit decided_record
  decided_fit =
      let f = s.fit in
      record {
        down = f.down;
        up = f.up;
        own =
            record {
              profile = f.own.profile;
              size = f.own.size;
              hearing = f.own.hearing;
              controller = steady_fits (controller_after t.ends.controller v) steady_after;
              asking = f.own.asking;
              endpoint = subst FitHand (sym (endpoint_after_law t.ends.endpoint v)) (endpoint_fit (change_by v 0) t.ends.endpoint f.own.endpoint);
            };
        conns =
            conns_by FitCounts t.ends.conns (conns_after t.ends.conns v)
            (λ d p k. subst FitCounts (sym (counts d p)) (changed_fit (change_by v d) (counts_of t.ends.conns d) k))
            f.conns;
      }

  pub decided_small : Small decided_record
  decided_small =
      record {
        own =
            record {
              profile = small.own.profile;
              host = small.own.host;
              hearing = small.own.hearing;
              controller =
                  controller_octal (controller_after t.ends.controller v)
                  (after_small t.ends.controller v verdict_small (controller_parts t.ends.controller small.own.controller));
              asking = small.own.asking;
            };
        conns =
            conns_by SmallCounts t.ends.conns (conns_after t.ends.conns v)
            (λ d p k. subst SmallCounts (sym (counts d p)) (changed_small (change_by v d) (counts_of t.ends.conns d) (change_small v verdict_small d) k))
            small.conns;
      }

  pub decided_sound : Sound a decided_record
  decided_sound = record { room = s.room; fit = decided_fit; shape = decided_shape }

  -- it stands for both ends after the verdict
  pub decided_view : view a decided_record
      ≡ bench.with_controller_state (controller_after (view a t).controller v)
      (bench.with_conns (λ d. with_controller (at_controller (change_by v d) ((view a t).conns d).controller) ((view a t).conns d)) (view a t))
  decided_view =
      let all =
      controllers_changed a t (change_by v) (endpoint_after t.ends.endpoint v) (conns_after t.ends.conns v) s.shape.conns (length_after t.ends.conns v) counts
      (endpoint_after_law t.ends.endpoint v) (none_opens gid oid (aim_in m) t.ends.profile v fits)
      in
      λ i. bench.with_controller_state (controller_after t.ends.controller v) (all i)
