-- What is seen of calls on octets is what the model shows; so document 01's table and limits, proved on the model, hold on octets.
-- Assumes nothing.
use Prim.Native.Nat.{ℕ}
use mathlib.Core.Path.{◌≡◌, refl, sym, ap, ◌∙◌}
use mathlib.Core.Bool.{Bool, true, false, not, false≢true}
use mathlib.Core.List.{List, [], ◌∷◌}
use Rattle.octets.specs.Octets.{Octets, pick}
use Rattle.octets.specs.Octal.{octal_nil}
use Rattle.state.specs.Profile.{profile_in, profile_octets_ok}
use Rattle.views.specs.View.{view_of}
use Rattle.model.specs.Effects.{Call, fresh, down, credit, taken, refused}
use Rattle.model.specs.State.{State, cold}
use Rattle.model.specs.Refusals.{first}
use Rattle.model.specs.Bench.{judged, step}
use Rattle.model.specs.Observer.{Event, Account, opening, observe, event_of, events, after}
use Rattle.model.specs.Table.{Plays, Starts, Answers, Notices, on_model, Gives, Table}
use Rattle.model.specs.Limits.{Limits}
use Rattle.model.proofs.Whole.{table}
use Rattle.model.proofs.Limits.{limits}
use Rattle.calls.specs.Word.{answer_in}
use Rattle.calls.specs.Outcome.{Outcome}
use Rattle.calls.specs.Seen.{Puts, no_puts, puts_after, seen_by}
use Rattle.calls.specs.Refines.{Refines}
use Rattle.calls.specs.calls.Fresh.{fresh_call}
use Rattle.calls.specs.Demand.{Key, pressed, AllOctal, area_after, seen_in}
use Rattle.calls.specs.Played.{calls_in, AllRoom, AsModel, OctetPlays, OctetStarts, OctetAnswers, OctetNotices, on_octets, ShortArea}
use Rattle.calls.proofs.FreshPower.{fresh_own, fresh_view}
use Rattle.calls.proofs.Demand.{all_refine, short_area, Stands, press, started, run_stands, starts_standing}

-- ---- every list

-- on any area that stands for a bench of the model's invariant
shown_as : (ks : List Key) → AllOctal ks → AllRoom ks → (a : Octets) (p : Puts) (o : Account) → Stands a p o → seen_in ks p a ≡ events (calls_in ks) (view_of a)
unfolding seen_in events
shown_as [] v r a p o s = refl
shown_as (k ∷ ks) v r a p o s =
    let x : Refines k.call p a (pressed k a) = all_refine k.call p a k.out v.0 s.good r.0 s.along in
    let tail =
    shown_as ks v.1 r.1 (pressed k a).area (puts_after k.call p (pressed k a).word) (observe (seen_by k.call p (pressed k a)) o) (press k v.0 a p o s)
    in
    λ i. x.event i ∷ (tail ∙ ap (events (calls_in ks)) x.next) i

pub as_model : AsModel
as_model area out m v e keys w r =
    let t = started area out m e in
    shown_as keys w r (fresh_call area out m).area no_puts opening (starts_standing area out m v e)
    ∙ ap (events (calls_in keys)) (sym (ap (λ (x : Outcome). view_of x.area) t.taking) ∙ fresh_view area m t.long v t.ok out)

-- ---- the table and the limits

pub plays : (es : List Event) → Plays es → OctetPlays es
plays es h area out m v e before w keys u r same =
    let a : Octets = area_after before (fresh_call area out m).area in
    shown_as keys u r a _ _ (run_stands area out m v e before w) ∙ ap (λ (cs : List Call). events cs (view_of a)) same ∙ h (view_of a)

fresh_after : (m : Octets) (s : State) → profile_octets_ok m ≡ true → after (fresh m ∷ []) s ≡ cold (profile_in m)
unfolding after step first
fresh_after m s ok = go (profile_octets_ok m) ok
  where
    go : (b : Bool) → b ≡ true → (judged (pick (not b) (refused 3) taken) (fresh m) s).effect.next ≡ cold (profile_in m)
    go true e = refl
    go false e = absurd (false≢true e)

starts : (m : Octets) (t : State) → profile_octets_ok m ≡ true → Starts m t → OctetStarts m t
unfolding first
starts m t ok h a out v long room =
    ap (λ (x : Outcome). view_of x.area) (sym (fresh_own a out m long room taken (rw ok))) ∙ fresh_view a m long v ok out ∙ sym (fresh_after m (view_of a) ok) ∙ h (view_of a)

answers : (es : List Event) (x q : Octets) → Answers es x q → OctetAnswers es x q
answers es x q h s w a out p g al room e = (all_refine down p a out octal_nil g room al).event ∙ ap (λ (t : State). event_of down (step down t)) e ∙ h s w

notices : (owed : List ℕ) (q : Octets) → Notices owed q → OctetNotices owed q
notices owed q h a out p g al room e free = (all_refine credit p a out octal_nil g room al).event ∙ h (view_of a) e free

gives : (before : List Event) (gid oid : ℕ) (m p q : Octets) → Gives on_model before gid oid m p q → Gives on_octets before gid oid m p q
gives before gid oid m p q g = record { called = plays _ g.called; taken_first = answers before p q g.taken_first }

pub octet_table : Table on_octets
octet_table =
    record {
      start = starts _ _ refl table.start;
      empty = plays _ table.empty;
      nine = plays _ table.nine;
      eight = plays _ table.eight;
      create = gives _ _ _ _ _ _ table.create;
      credits = notices _ _ table.credits;
      credits_zero = plays _ table.credits_zero;
      unknown = gives _ _ _ _ _ _ table.unknown;
      deactivate = λ type. gives _ _ _ _ _ _ (table.deactivate type);
      close_closed = gives _ _ _ _ _ _ table.close_closed;
      close_open = gives _ _ _ _ _ _ table.close_open;
    }

pub octet_limits : Limits OctetPlays
octet_limits =
    record {
      send_1024 = plays _ limits.send_1024;
      send_1025 = plays _ limits.send_1025;
      push_at_15 = plays _ limits.push_at_15;
      push_at_16 = plays _ limits.push_at_16;
      eighth_stored = plays _ limits.eighth_stored;
      ninth_stored = plays _ limits.ninth_stored;
      command_at_14 = plays _ limits.command_at_14;
      command_at_15 = plays _ limits.command_at_15;
      answer_at_14 = plays _ limits.answer_at_14;
      answer_at_15 = plays _ limits.answer_at_15;
    }

-- ---- an area too short

pub area_short : ShortArea
unfolding answer_in
area_short k a short = sym (ap (λ (x : Outcome). answer_in x.word) (short_area a k.out short k.call))
