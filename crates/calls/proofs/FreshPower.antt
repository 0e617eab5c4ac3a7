-- fresh and power: the cold record is one that row 1 lets pass, of octets, and stands for the cold bench.
-- Assumes nothing.
use Prim.Native.Nat.{ℕ, zero, suc, ◌≤◌}
use mathlib.Core.Path.{◌≡◌, refl, sym, ap, ◌∙◌, subst}
use mathlib.Core.Bool.{Bool, true, false, not, false≢true}
use mathlib.Core.List.{◌∷◌, ◌++◌}
use native.Mathlib.Omega.{arith}
use lib.ListN.{length}
use lib.Dec.{ltb}
use borrow.Author.Tests.{le-ltb, ltb-false}
use Rattle.octets.specs.Octets.{Octets, pick, splice}
use Rattle.octets.specs.Octal.{Octal, octal_nil, octal_cons}
use Rattle.octets.proofs.Octets.{length_splice}
use Rattle.octets.proofs.Octal.{octal_splice}
use Rattle.calls.specs.Kinds.{Profile, Counts, Record}
use Rattle.state.specs.Conn.{terms_of, closed_counts}
use Rattle.state.specs.Profile.{ProfileWithin, profile_in, profile_octets_ok}
use Rattle.state.proofs.Limits.{profile_limits, credits_small}
use Rattle.area.specs.Map.{area_size, message_size}
use Rattle.area.specs.Movers.{zeros}
use Rattle.area.specs.Ring.{packets_from, tab}
use Rattle.record.specs.Reading.{decode_of}
use Rattle.config.specs.Stored.{defaults, parameters_ok}
use Rattle.config.proofs.SetOctets.{defaults_octal}
use Rattle.record.specs.Layout.{bit, configured}
use Rattle.record.specs.Writing.{profile_octets, host_octets, pending_octets, control_run_octets, controller_octets, phase_octet, rf_octets, pairs_octets}
use Rattle.record.specs.Claims.{saved}
use Rattle.record.specs.Fit.{Shape, Fit, FitCounts, Each}
use Rattle.record.specs.Small.{SmallCounts, Small}
use Rattle.record.specs.Plan.{cold_record}
use Rattle.record.proofs.Configured.{configured_length, configured_octal}
use Rattle.record.proofs.Saved.{saved_record}
use Rattle.views.specs.View.{view, view_of}
use Rattle.views.proofs.Saved.{saved_view}
use Rattle.views.proofs.Others as views
use Rattle.model.specs.State.{State, cold}
use Rattle.model.specs.Effects.{fresh, power, Result, taken, refused}
use Rattle.model.specs.Refusals.{first}
use Rattle.model.specs.Bench.{rules, judged}
use Rattle.model.specs.Grants.{WithinGrants}
use Rattle.model.proofs.Parameters.{defaults_within}
use Rattle.calls.specs.Word.{word_of, answer_in, dropped_in, handed_in, length_in, down_in, up_in, rfu_in}
use Rattle.calls.specs.Outcome.{outcome, decided, lowest}
use Rattle.calls.specs.Seen.{Puts, no_puts}
use Rattle.calls.specs.Refines.{Good, Follows, Along, RefinesTo, Refines}
use Rattle.calls.specs.calls.Fresh.{room_rules, freshed, fresh_call}
use Rattle.calls.specs.calls.Power.{powered, power_call}
use Rattle.calls.proofs.Rules.{first_refused, first_taken}
use Rattle.calls.proofs.Called.{sound_area}
use Rattle.calls.proofs.Refine.{saved_good, called_refines, decided_refines}

-- ---- the cold record, for a profile within its limits

pub closed_all : (P : Counts → Type 0) (p : Profile) → P closed_counts → Each P (cold_record p).ends.conns
closed_all P p c zero h = c
closed_all P p c (suc zero) h = c
closed_all P p c (suc (suc zero)) h = c
closed_all P p c (suc (suc (suc zero))) h = c
closed_all P p c (suc (suc (suc (suc zero)))) h = c
closed_all P p c (suc (suc (suc (suc (suc q))))) h = absurd (omega arith)

pub zero_octets : (n : ℕ) → Octal (zeros n)
unfolding zeros
zero_octets zero = octal_nil
zero_octets (suc n) = octal_cons {x = 0} (omega arith) (zero_octets n)

module _ (p : Profile) (w : ProfileWithin p) where
  pub cold_fit : Fit (cold_record p)
  cold_fit =
      record {
        down = record { head = omega arith; count = omega arith };
        up = record { head = omega arith; count = omega arith };
        own =
            record {
              profile = w;
              size = omega arith;
              hearing = omega arith;
              controller = record { pairs = omega arith; given = λ z. absurd (z refl) };
              asking = omega arith;
              endpoint = record { len = omega arith; at = omega arith };
            };
        conns =
            closed_all FitCounts p
            (record {
              payload = λ e. absurd (false≢true e);
              hand = record { len = omega arith; at = omega arith };
              host_run_law = omega arith;
              store = record { head = omega arith; count = omega arith };
              controller_run_law = omega arith;
            });
      }

  pub cold_shape : Shape (cold_record p)
  cold_shape = record { pairs = refl; conns = refl }

  terms_octets : (c : ℕ) {l : Octets} → Octal l → Octal ((terms_of p c).payload ∷ (terms_of p c).credits ∷ l)
  terms_octets c o = octal_cons (w.terms c).most (octal_cons (credits_small _ (w.terms c).credits_ok_law) o)

  pub cold_small : Small (cold_record p)
  unfolding terms_of profile_octets host_octets pending_octets control_run_octets controller_octets phase_octet rf_octets pairs_octets bit zeros
  cold_small =
      record {
        own =
            record {
              profile =
                  octal_cons w.control_most (terms_octets 2 (terms_octets 3 (terms_octets 4 (terms_octets 5 (terms_octets 0 octal_nil)))));
              host = octal_cons {x = 32} (omega arith) (zero_octets 4);
              hearing = zero_octets 6;
              controller = zero_octets 23;
              asking = zero_octets 6;
            };
        conns = closed_all SmallCounts p (record { payload = omega arith; host_grant_law = omega arith; held = omega arith; grant = omega arith; owed = omega arith });
      }

  -- ---- written into an area of octets that is long enough

  module _ (x : Octets) (long : area_size ≤ length x) (o : Octal x) where
    -- with every parameter at its default
    abbrev restored : Octets
    restored = configured x defaults

    restored_long : area_size ≤ length restored
    restored_long = omega (arith, long, configured_length x defaults)

    before_view : view restored (cold_record p) ≡ cold p
    before_view = views.cold_view x p long

    pub cold_good : Good (saved restored (cold_record p))
    cold_good =
        saved_good restored (cold_record p) restored_long cold_fit cold_shape (configured_octal x defaults o defaults_octal) cold_small
        (subst WithinGrants (sym before_view) (λ d five. record { held = omega arith; owed = omega arith }))
        (subst (λ (s : State). parameters_ok s.config ≡ true) (sym before_view) defaults_within.values)

    pub cold_view : view_of (saved restored (cold_record p)) ≡ cold p
    cold_view = saved_view restored (cold_record p) restored_long cold_fit cold_shape ∙ before_view

    pub cold_along : Along no_puts (saved restored (cold_record p))
    cold_along =
        let e = saved_record restored (cold_record p) restored_long cold_fit cold_shape in
        record { down = subst (λ (y : Record). Follows 0 y.down) (sym e) refl; up = subst (λ (y : Record). Follows 0 y.up) (sym e) refl }

-- ---- fresh

module _ (a out m : Octets) where
  fresh_as : (x : Result) → first (room_rules (length a) (length out) ++ rules (fresh m) (view_of a)) ≡ x → decided x (freshed m a out) a out ≡ fresh_call a out m
  unfolding fresh_call
  fresh_as x e = ap (λ (y : Result). decided y (freshed m a out) a out) (sym e)

  -- where there is room, the profile decides
  pub fresh_own : area_size ≤ length a → message_size ≤ length out → (x : Result) → first (rules (fresh m) (view_of a)) ≡ x
      → decided x (freshed m a out) a out ≡ fresh_call a out m
  unfolding first
  fresh_own long room x e = fresh_as x (rw (le-ltb (length a) area_size long, le-ltb (length out) message_size room) e)

  -- the code's guard: the number of the first rule that applies
  pub fresh_refused : (n : ℕ) → n ≡ lowest (room_rules (length a) (length out) ++ rules (fresh m) (view_of a)) → (n ≡ 0 → ⊥) → outcome n a out ≡ fresh_call a out m
  fresh_refused n e ne = fresh_as (refused n) (first_refused (room_rules (length a) (length out) ++ rules (fresh m) (view_of a)) n e ne)

  -- what the guard leaves known of the area
  pub fresh_long : 0 ≡ lowest (room_rules (length a) (length out) ++ rules (fresh m) (view_of a)) → area_size ≤ length a
  unfolding lowest
  fresh_long e = go (ltb (length a) area_size) refl (ltb (length out) message_size) e
    where
      go : (b : Bool) → ltb (length a) area_size ≡ b → (s : Bool) → ◌≡◌ {A = ℕ} 0 (pick b 2 (pick s 2 (lowest (rules (fresh m) (view_of a))))) → area_size ≤ length a
      go true p s h = absurd (omega arith)
      go false p s h = ltb-false (length a) area_size p

  pub fresh_taken : 0 ≡ lowest (room_rules (length a) (length out) ++ rules (fresh m) (view_of a)) → freshed m a out ≡ fresh_call a out m
  fresh_taken e = fresh_as taken (first_taken (room_rules (length a) (length out) ++ rules (fresh m) (view_of a)) refl e)

-- a profile that fresh takes is within its limits
module _ (a m : Octets) (long : area_size ≤ length a) (o : Octal a) (ok : profile_octets_ok m ≡ true) where
  abbrev cleared : Octets
  cleared = splice a 0 (zeros area_size)

  cleared_long : area_size ≤ length cleared
  cleared_long = omega (arith, long, length_splice a 0 (zeros area_size))

  cleared_octal : Octal cleared
  cleared_octal = octal_splice 0 o (zero_octets area_size)

  pub fresh_good : (out : Octets) → Good (freshed m a out).area
  fresh_good out = cold_good (profile_in m) (profile_limits m ok) cleared cleared_long cleared_octal

  pub fresh_view : (out : Octets) → view_of (freshed m a out).area ≡ cold (profile_in m)
  fresh_view out = cold_view (profile_in m) (profile_limits m ok) cleared cleared_long cleared_octal

  pub fresh_along : (out : Octets) → Along no_puts (freshed m a out).area
  fresh_along out = cold_along (profile_in m) (profile_limits m ok) cleared cleared_long cleared_octal

  pub fresh_done : (p : Puts) (out : Octets) → RefinesTo (fresh m) p (freshed m a out) (judged taken (fresh m) (view_of a))
  unfolding word_of bit answer_in dropped_in handed_in length_in down_in up_in rfu_in packets_from tab
  fresh_done p out = record { good = λ _ _. fresh_good out; event = refl; next = fresh_view out; along = fresh_along out; there = record { down = omega arith; up = omega arith } }

pub fresh_refines : (m : Octets) (p : Puts) (a out : Octets) → Good a → message_size ≤ length out → Along p a → Refines (fresh m) p a (fresh_call a out m)
unfolding first
fresh_refines m p a out g room al =
    subst (Refines (fresh m) p a) (fresh_own a out m g.long room (first (rules (fresh m) (view_of a))) refl)
    (decided_refines (fresh m) (freshed m a out) p a out g room al refl (λ t. fresh_done a m g.long g.octal (takes (profile_octets_ok m) t) p out))
  where
    takes : (b : Bool) → pick (not b) (refused 3) taken ≡ taken → b ≡ true
    takes true h = refl
    takes false h = absurd (let z : ◌≡◌ {A = ℕ} 0 1 = cc in omega arith)

-- ---- power

module _ (a out : Octets) (g : Good a) where
  profile_kept : ProfileWithin (decode_of a).ends.profile
  profile_kept = (sound_area a g.long g.judged).fit.own.profile

  power_done : (p : Puts) → RefinesTo power p (powered (decode_of a) a out) (judged taken power (view_of a))
  unfolding word_of bit answer_in dropped_in handed_in length_in down_in up_in rfu_in packets_from tab
  power_done p =
      let x = (decode_of a).ends.profile in
      record {
        good = λ _ _. cold_good x profile_kept a g.long g.octal;
        event = refl;
        next = cold_view x profile_kept a g.long g.octal;
        along = cold_along x profile_kept a g.long g.octal;
        there = record { down = omega arith; up = omega arith };
      }

  pub power_refines : (p : Puts) → message_size ≤ length out → Along p a → Refines power p a (power_call a out)
  unfolding power_call
  power_refines p room al = called_refines power (powered (decode_of a) a out) p a out g room al refl (λ t. power_done p)
