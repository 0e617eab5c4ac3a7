-- The moves of Run to rest on octets, to the move: calls answer as the model's rules say, presses are the model's, and what is in hand is what was counted.
-- Assumes nothing.
use Prim.Native.Nat.{ℕ, ◌≤◌}
use mathlib.Core.Path.{◌≡◌, refl, sym, ap, ◌∙◌}
use mathlib.Core.Logic.{◌⊎◌, inl, inr}
use mathlib.Core.List.{List}
use lib.ListN.{length}
use Rattle.octets.specs.Octets.{Octets}
use Rattle.octets.specs.Octal.{Octal}
use Rattle.area.specs.Map.{message_size}
use Rattle.views.specs.View.{view_of}
use Rattle.model.specs.Effects.{Call, down, consume, credit, up, taken, refused}
use Rattle.model.specs.Refusals.{first}
use Rattle.model.specs.Bench.{rules}
use Rattle.model.specs.Observer.{Event, Account, opening, observed}
use Rattle.model.specs.Table.{Plays}
use Rattle.model.specs.Exact.{Clear, exactly, Exact}
use Rattle.model.specs.Foretold.{Foretells, Foretold}
use Rattle.model.proofs.Cases.{no_length}
use Rattle.model.proofs.Falling.{IsMove}
use Rattle.model.proofs.Press.{no_move}
use Rattle.model.proofs.Exact.{speech_noted, clear_none, rest_clear, Known, known_exact}
use Rattle.model.proofs.Foretold.{foretold}
use Rattle.model.proofs.Speech.{Counted, step_counted, refused_counted}
use Rattle.calls.specs.Word.{answer_in}
use Rattle.calls.specs.Seen.{no_puts}
use Rattle.calls.specs.Refines.{Good}
use Rattle.calls.specs.calls.Fresh.{fresh_call}
use Rattle.calls.specs.Demand.{Key, AllOctal, area_after, seen_in}
use Rattle.calls.specs.Played.{OctetPlays}
use Rattle.calls.specs.Exact.{answer_on, OctetExact, AlwaysOctetExact, AlwaysRestClear}
use Rattle.calls.proofs.Demand.{run_stands}
use Rattle.calls.proofs.EveryRun.{run_noted}
use Rattle.calls.proofs.Played.{plays}
use Rattle.calls.proofs.Discards.{run_marked}
use Rattle.calls.proofs.Strokes.{carried}
use Rattle.calls.proofs.Moves.{octal_of}
use Rattle.calls.proofs.Rest.{strokes_stand, kept_tells, over, then_made, same_answer}

module _ (a : Octets) (es : List Event) (g : Good a) (k : Known (view_of a) es) (out : Octets) (room : message_size ≤ length out) (clear : Clear (answer_on a out)) where
  abbrev o : Account
  o = observed es opening

  exact : Exact (view_of a) es
  exact = known_exact (view_of a) es k (clear_none (view_of a) (answer_on a out) (λ c v. same_answer a g c (octal_of c v) out room) clear)

  octet_exact : OctetExact a out es
  octet_exact =
      record {
        moves =
            λ n e.
            (over n a out o g k.keeps room).made
            ∙ exact.moves n (no_length _ (sym (then_made a out o g k.keeps room n) ∙ e));
        ends = then_made a out o g k.keeps room (exactly es) ∙ ap length exact.ends;
      }

-- what is known of the area that a run leaves
run_known : (area out profile : Octets) → Octal area → answer_in (fresh_call area out profile).word ≡ taken → (keys : List Key) → AllOctal keys
    → Known (view_of (area_after keys (fresh_call area out profile).area)) (seen_in keys no_puts (fresh_call area out profile).area)
unfolding speech_noted
run_known area out profile v e keys w =
    record {
      keeps = (run_stands area out profile v e keys w).keeps;
      marked = run_marked area out profile v e keys w;
      counted = run_noted speech_noted Counted step_counted refused_counted 0 (λ p l. refl) area out profile v e keys w;
    }

pub always_octet_exact : AlwaysOctetExact
always_octet_exact =
    carried (λ ks a b. (out : Octets) → message_size ≤ length out → Clear (answer_on b out) → OctetExact b out (seen_in ks no_puts a))
    (λ area out profile v e keys w. octet_exact _ _ (run_stands area out profile v e keys w).good (run_known area out profile v e keys w))

-- ---- at rest nothing is under way

-- where calls answer as the rules say, by the one as by the other
clear_by : (a out : Octets) → Good a → message_size ≤ length out → Clear (λ c. first (rules c (view_of a))) → Clear (answer_on a out)
clear_by a out g room k =
    record {
      none_down = same down tt ∙ k.none_down;
      none_up = same up tt ∙ k.none_up;
      none_owed = same credit tt ∙ k.none_owed;
      none_stored = λ c five. go c (k.none_stored c five);
    }
  where
    same : (c : Call) → IsMove c → answer_on a out c ≡ first (rules c (view_of a))
    same c v = same_answer a g c (octal_of c v) out room

    go : (c : ℕ) → (first (rules (consume c) (view_of a)) ≡ refused 6) ⊎ (first (rules (consume c) (view_of a)) ≡ refused 8)
        → (answer_on a out (consume c) ≡ refused 6) ⊎ (answer_on a out (consume c) ≡ refused 8)
    go c (inl e) = inl (same (consume c) tt ∙ e)
    go c (inr e) = inr (same (consume c) tt ∙ e)

pub always_rest_clear : AlwaysRestClear
always_rest_clear area out profile v e xs w buffer room none =
    let s = strokes_stand area out profile v e xs w in
    let t = kept_tells _ buffer _ s.good s.keeps room in
    clear_by _ buffer s.good room (rest_clear _ _ _ s.keeps.fine (no_move _ (no_length _ (sym t.counts ∙ none))))

-- ---- lists after which nothing is under way

pub octet_foretold : Foretold OctetPlays
octet_foretold =
    record {
      none = told foretold.none;
      all = told foretold.all;
      all_unlimited = told foretold.all_unlimited;
      empty = told foretold.empty;
      one_gone = told foretold.one_gone;
      deactivated = told foretold.deactivated;
    }
  where
    told : {n : ℕ} {es : List Event} {left : ℕ} → Foretells Plays n es left → Foretells OctetPlays n es left
    told f = record { played = plays _ f.played; number = f.number }
