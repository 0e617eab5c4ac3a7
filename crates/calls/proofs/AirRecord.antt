-- The record after an event of the air was met: it is one that row 1 lets pass, of octets, and stands for what the model makes of the event.
-- Assumes nothing.
use Rattle.std.specs.Prelude.{Option, Some, None}
use Prim.Native.Nat.{ℕ, ◌-◌, ◌<◌}
use native.Mathlib.Omega.{arith}
use mathlib.Core.Path.{◌≡◌, refl, sym, ◌∙◌, subst}
use mathlib.Core.Bool.{true, false, false≢true}
use lib.ListN.{length, drop, length-drop}
use lib.Dec.{eqb}
use borrow.Author.Tests.{eqb-true}
use Rattle.octets.specs.Octets.{Octets, splice}
use Rattle.octets.specs.Octal.{Octal}
use Rattle.calls.specs.Kinds.{Hand, Record, Controller, Pairs, Terms, Listing, Aired}
use Rattle.calls.specs.Kinds.listing.{Keeps, Starts, Adds}
use Rattle.calls.specs.Kinds.aired.{Goes, Activates, Ends, Speaks}
use Rattle.state.specs.Conn.{place_of, terms_of, counts_of, hand_with}
use Rattle.state.proofs.Chains.{on}
use Rattle.state.proofs.SmallVerdicts.{SmallTerms}
use Rattle.state.proofs.Steady.{Steady}
use Rattle.air.specs.Air.{event_of, kind_of, is_refused, listed_after, controller_aired, conns_aired, endpoint_aired}
use Rattle.air.proofs.Taken.{aired_steady}
use Rattle.air.proofs.Spoken.{spoken_short, Spoken, aired_spoken}
use Rattle.air.proofs.SmallEvents.{event_small, SmallListing, SmallAired, aired_small}
use Rattle.ends.specs.Changes.{Change, change_aired, counts_at_controller, endpoint_by, spoken_by}
use Rattle.ends.specs.Steps.{ends_aired, aired_in, met}
use Rattle.ends.proofs.Changes.{counts_aired, length_aired, endpoint_aired_law}
use Rattle.area.specs.Map.{places, endpoint_at}
use Rattle.record.specs.Layout.{pairs_room}
use Rattle.record.specs.Writing.{pairs_octets}
use Rattle.record.specs.Fit.{Shape, Fit, FitHand, FitCounts}
use Rattle.record.specs.Small.{SmallCounts, Small}
use Rattle.record.specs.Plan.{with_ends, with_endpoint}
use Rattle.record.proofs.Conns.{conns_by}
use Rattle.record.proofs.Small.{SmallController, profile_terms, controller_parts, controller_octal}
use Rattle.record.proofs.Controllers.{steady_fits, fits_steady}
use Rattle.record.proofs.Pairs.{rf_octal, started_octal, added_octal}
use Rattle.views.specs.View.{view}
use Rattle.views.specs.Moves.{Sound}
use Rattle.views.proofs.Whole.{moves}
use Rattle.calls.proofs.ControllerConns.{controllers_changed}
use Rattle.model.specs.Connection.{closed_controller, with_controller}
use Rattle.model.specs.State as bench
use Rattle.model.specs.Changes.{at_controller}
use Rattle.model.specs.calls.Air.{aired_conns}
use Rattle.calls.proofs.ControllerChange.{changed_fit, SmallChange, changed_small, endpoint_fit}

-- ---- what an event does to a connection

-- what it opens has the profile's terms
change_small : (t : Terms) (x : Option Aired) → SmallTerms t → (d : ℕ) → SmallChange (change_aired t x d)
change_small t None s d = tt
change_small t (Some (Goes rf l)) s d = tt
change_small t (Some (Activates rf l)) s d = on SmallChange (eqb 0 d) (λ _. s.credits) (λ _. tt)
change_small t (Some (Ends rf)) s d = on SmallChange (eqb 0 d) (λ _. tt) (λ _. tt)
change_small t (Some Speaks) s d = tt

-- it opens connection 0, which has a place
abbrev Leaves : Change → Type 0
Leaves x = at_controller x closed_controller ≡ closed_controller

none_opens : (t : Terms) (x : Option Aired) (d : ℕ) → (place_of d < places → ⊥) → Leaves (change_aired t x d)
unfolding place_of
none_opens t None d h = refl
none_opens t (Some (Goes rf l)) d h = refl
none_opens t (Some (Activates rf l)) d h =
    on Leaves (eqb 0 d) (λ e. absurd (h (subst (λ (c : ℕ). place_of c < places) (eqb-true 0 d e) (omega arith)))) (λ _. refl)
none_opens t (Some (Ends rf)) d h = on Leaves (eqb 0 d) (λ _. refl) (λ _. refl)
none_opens t (Some Speaks) d h = refl

-- ---- the endpoint's message in hand

spoken_fit : (m : Octets) (x : Option Aired) (h : Hand) → Spoken (event_of m) x → FitHand h → FitHand (spoken_by x (length m - 1) h)
spoken_fit m None h w f = f
spoken_fit m (Some (Goes rf l)) h w f = f
spoken_fit m (Some (Activates rf l)) h w f = f
spoken_fit m (Some (Ends rf)) h w f = f
spoken_fit m (Some Speaks) h w f = record { len = omega (arith, spoken_short m w, length-drop 1 m); at = omega arith }

-- ---- the controller's own octets

listed_octal : (ps : Pairs) (l : Listing) → length ps.list ≡ pairs_room → SmallListing l → Octal (pairs_octets ps) → Octal (pairs_octets (listed_after ps l))
listed_octal ps Keeps n s o = o
listed_octal ps (Starts p) n s o = started_octal p s
listed_octal ps (Adds p) n s o = added_octal ps p n s o

aired_controller : (k : Controller) (x : Option Aired) → length k.pairs.list ≡ pairs_room → SmallAired x → SmallController k → SmallController (controller_aired k x)
unfolding controller_aired
aired_controller k None n s o = o
aired_controller k (Some (Goes rf l)) n s o = record { given = o.given; rf = rf_octal rf s.0; pairs = listed_octal k.pairs l n s.1 o.pairs }
aired_controller k (Some (Activates rf l)) n s o = record { given = o.given; rf = rf_octal rf s.0; pairs = listed_octal k.pairs l n s.1 o.pairs }
aired_controller k (Some (Ends rf)) n s o = record { given = o.given; rf = rf_octal rf s; pairs = o.pairs }
aired_controller k (Some Speaks) n s o = o

-- ---- the record after an event m was met

abbrev pub met_record : Record → Octets → Record
met_record r m = with_ends (met r.ends m).next r

module _ (a : Octets) (r : Record) (s : Sound a r) (small : Small r) (m : Octets) (o : Octal m) where
  abbrev x : Option Aired
  x = aired_in r.ends (event_of m)

  abbrev t : Terms
  t = terms_of r.ends.profile 0

  spoken : Spoken (event_of m) x
  spoken = aired_spoken r.ends.controller.rf r.ends.controller.pairs (event_of m)

  counts : (d : ℕ) → place_of d < places → counts_of (conns_aired r.ends.profile r.ends.conns x) d ≡ counts_at_controller (change_aired t x d) (counts_of r.ends.conns d)
  counts d l = counts_aired r.ends.conns d s.shape.conns l r.ends.profile x

  steady_after : Steady (controller_aired r.ends.controller x)
  steady_after = aired_steady r.ends.controller x (fits_steady r.ends.controller s.fit.own.controller s.shape.pairs)

  pub met_shape : Shape (met_record r m)
  met_shape = record { pairs = steady_after.places; conns = length_aired r.ends.profile r.ends.conns x ∙ s.shape.conns }

  pub met_fit : Fit (met_record r m)
  met_fit =
      let f = s.fit in
      let h = r.ends.endpoint in
      record {
        down = f.down;
        up = f.up;
        own =
            record {
              profile = f.own.profile;
              size = f.own.size;
              hearing = f.own.hearing;
              controller = steady_fits (controller_aired r.ends.controller x) steady_after;
              asking = f.own.asking;
              endpoint =
                  subst FitHand (sym (endpoint_aired_law t h x (length m - 1)))
                  (spoken_fit m x (endpoint_by (change_aired t x 0) h) spoken (endpoint_fit (change_aired t x 0) h f.own.endpoint));
            };
        conns =
            conns_by FitCounts r.ends.conns (conns_aired r.ends.profile r.ends.conns x)
            (λ d l k. subst FitCounts (sym (counts d l)) (changed_fit (change_aired t x d) (counts_of r.ends.conns d) k))
            f.conns;
      }

  pub met_small : Small (met_record r m)
  met_small =
      let w = small.own in
      let terms : SmallTerms t = profile_terms r.ends.profile w.profile 0 in
      record {
        own =
            record {
              profile = w.profile;
              host = w.host;
              hearing = w.hearing;
              controller =
                  controller_octal (controller_aired r.ends.controller x)
                  (aired_controller r.ends.controller x s.shape.pairs
                  (aired_small r.ends.controller.rf r.ends.controller.pairs (event_of m) (event_small m o)) (controller_parts r.ends.controller w.controller));
              asking = w.asking;
            };
        conns =
            conns_by SmallCounts r.ends.conns (conns_aired r.ends.profile r.ends.conns x)
            (λ d l k. subst SmallCounts (sym (counts d l)) (changed_small (change_aired t x d) (counts_of r.ends.conns d) (change_small t x terms d) k))
            small.conns;
      }

  pub met_sound : Sound a (met_record r m)
  met_sound = record { room = s.room; fit = met_fit; shape = met_shape }

-- ---- what it stands for

-- both ends after the event, in the model
abbrev pub stands : Octets → Record → Octets → Option Aired → bench.State
stands a r m x =
    bench.with_controller_state (controller_aired r.ends.controller x)
    (bench.with_conns (aired_conns (terms_of r.ends.profile 0) x m (view a r).conns) (view a r))

module _ (a : Octets) (r : Record) (s : Sound a r) (m : Octets) where
  abbrev after : Option Aired → Record
  after x = with_ends (ends_aired r.ends x (length m - 1)) r

  -- the message in hand follows connection 0 where the endpoint does not speak
  changed : (x : Option Aired) → endpoint_aired r.ends.endpoint x (length m - 1) ≡ endpoint_by (change_aired (terms_of r.ends.profile 0) x 0) r.ends.endpoint
      → view a (after x)
      ≡ bench.with_controller_state (controller_aired r.ends.controller x)
      (bench.with_conns (λ d. with_controller (at_controller (change_aired (terms_of r.ends.profile 0) x d) ((view a r).conns d).controller) ((view a r).conns d)) (view a r))
  changed x e =
      let t = terms_of r.ends.profile 0 in
      let all =
      controllers_changed a r (change_aired t x) (endpoint_aired r.ends.endpoint x (length m - 1)) (conns_aired r.ends.profile r.ends.conns x)
      s.shape.conns (length_aired r.ends.profile r.ends.conns x)
      (λ d l. counts_aired r.ends.conns d s.shape.conns l r.ends.profile x) e (none_opens t x)
      in
      λ i. bench.with_controller_state (controller_aired r.ends.controller x) (all i)

  -- an event that is notified
  pub told_view : (x : Option Aired) → is_refused x ≡ false → Spoken (event_of m) x → eqb (kind_of (event_of m)) 8 ≡ false → view a (after x) ≡ stands a r m x
  unfolding endpoint_aired
  told_view None t w k = absurd (false≢true (sym t))
  told_view (Some (Goes rf l)) t w k = changed (Some (Goes rf l)) refl
  told_view (Some (Activates rf l)) t w k = changed (Some (Activates rf l)) refl
  told_view (Some (Ends rf)) t w k = changed (Some (Ends rf)) refl
  told_view (Some Speaks) t w k = absurd (false≢true (sym k ∙ w))

  -- the endpoint's message, in its place
  pub spoken_view : (x : Option Aired) → is_refused x ≡ false → Spoken (event_of m) x → eqb (kind_of (event_of m)) 8 ≡ true → view (splice a endpoint_at (drop 1 m)) (after x) ≡ stands a r m x
  unfolding controller_aired conns_aired endpoint_aired
  spoken_view None t w k = absurd (false≢true (sym t))
  spoken_view (Some (Goes rf l)) t w k = absurd (false≢true (sym w ∙ k))
  spoken_view (Some (Activates rf l)) t w k = absurd (false≢true (sym w ∙ k))
  spoken_view (Some (Ends rf)) t w k = absurd (false≢true (sym w ∙ k))
  spoken_view (Some Speaks) t w k =
      (λ i. view (splice a endpoint_at (drop 1 m)) (with_endpoint (hand_with (sym (length-drop 1 m) i)) r))
      ∙ (moves a r s).put_endpoint (drop 1 m) (spoken_short m k)
