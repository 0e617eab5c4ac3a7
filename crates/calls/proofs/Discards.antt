-- What a response discards was taken before its command, on octets: each call keeps the model's invariant of what the area stands for.
-- Assumes nothing.
use Prim.Native.Nat.{ℕ}
use mathlib.Core.Path.{◌≡◌, sym, ap, ◌∙◌}
use mathlib.Core.List.{List, [], ◌∷◌}
use Rattle.octets.specs.Octets.{Octets}
use Rattle.octets.specs.Octal.{Octal}
use Rattle.views.specs.View.{view_of}
use Rattle.model.specs.Effects.{push, taken}
use Rattle.model.specs.Bench.{step}
use Rattle.model.specs.Observer.{Event, Account, observe, observed}
use Rattle.model.specs.Table.{Plays}
use Rattle.model.specs.Discards.{Diary, first_page, diary_of, DiscardClaim, note, diary}
use Rattle.model.specs.Discarded.{Discarding, Discarded}
use Rattle.model.proofs.Discards.{MarkedIn, cold_marked, refused_marked, step_marked, marked_claim, hands_noted, turned_marked}
use Rattle.model.proofs.Discarded.{discarded}
use Rattle.calls.specs.Word.{answer_in}
use Rattle.calls.specs.Seen.{Puts, no_puts, seen_by, puts_after}
use Rattle.calls.specs.calls.Fresh.{fresh_call}
use Rattle.calls.specs.calls.Push.{push_call}
use Rattle.calls.specs.Demand.{Key, AllOctal, area_after, seen_in, pressed, slice}
use Rattle.calls.specs.Played.{OctetPlays}
use Rattle.calls.specs.Discards.{OctetDiscardClaim, AlwaysDiscards}
use Rattle.calls.proofs.Push.{push_refines}
use Rattle.calls.proofs.Demand.{Stands, run_stands, pressed_by, stands_within, press}
use Rattle.calls.proofs.EveryRun.{run_noted}
use Rattle.calls.proofs.Played.{plays}

press_marked : (k : Key) → Octal (slice k.call) → (a : Octets) (p : Puts) (o : Account) → Stands a p o → (n : Diary) → MarkedIn (view_of a) n
    → MarkedIn (view_of (pressed k a).area) (note (seen_by k.call p (pressed k a)) o n)
unfolding answer_in
press_marked k v a p o s n m =
    (pressed_by (λ e x. MarkedIn x (note e o n)) k v a p s.good s.along (stands_within a p o s k) (turned_marked (view_of a) n m) (step_marked k.call (view_of a) o n s.keeps m)).holds

-- ---- the claim

module _ (a : Octets) (p : Puts) (o : Account) (s : Stands a p o) (n : Diary) (m : MarkedIn (view_of a) n) where
  octet_discard_claim : OctetDiscardClaim a o n
  octet_discard_claim =
      let c : DiscardClaim (view_of a) o n = marked_claim (view_of a) o n s.keeps m in
      record {
        discards = c.discards;
        told =
            λ out room d known free there.
            let same : answer_in (push_call a out d).word ≡ (step (push d) (view_of a)).answer =
            ap (λ (x : Event). x.answer) (push_refines d p a out s.good room s.along).event in
            let t = c.told d known free there in
            (λ z. t.0 (sym same ∙ z), λ z. same ∙ t.1 z);
      }

keys_marked : (ks : List Key) → AllOctal ks → (a : Octets) (p : Puts) (o : Account) → Stands a p o → (n : Diary) → MarkedIn (view_of a) n
    → OctetDiscardClaim (area_after ks a) (observed (seen_in ks p a) o) (diary (seen_in ks p a) o n)
unfolding area_after seen_in observed diary
keys_marked [] v a p o s n m = octet_discard_claim a p o s n m
keys_marked (k ∷ ks) v a p o s n m =
    keys_marked ks v.1 (pressed k a).area (puts_after k.call p (pressed k a).word) (observe (seen_by k.call p (pressed k a)) o) (press k v.0 a p o s)
    (note (seen_by k.call p (pressed k a)) o n) (press_marked k v.0 a p o s n m)

-- what is in hand is what the diary has
pub run_marked : (area out profile : Octets) → Octal area → answer_in (fresh_call area out profile).word ≡ taken → (keys : List Key) → AllOctal keys
    → MarkedIn (view_of (area_after keys (fresh_call area out profile).area)) (diary_of (seen_in keys no_puts (fresh_call area out profile).area))
unfolding hands_noted
run_marked = run_noted hands_noted MarkedIn step_marked refused_marked first_page (λ p l. cold_marked p first_page)

pub always_discards : AlwaysDiscards
always_discards area out profile v e keys w =
    octet_discard_claim _ _ _ (run_stands area out profile v e keys w) _ (run_marked area out profile v e keys w)

-- ---- lists in which a response discards a message

discarding : (es : List Event) (p : Octets) (oid : ℕ) → Discarding Plays es p oid → Discarding OctetPlays es p oid
discarding es p oid d =
    record {
      played = plays es d.played;
      behind = d.behind;
      next_read = d.next_read;
      response = d.response;
      shuts = d.shuts;
      left = d.left;
      sent_at = d.sent_at;
      command_at = d.command_at;
    }

pub octet_discarded : Discarded OctetPlays
octet_discarded =
    record {
      close = discarding _ _ _ discarded.close;
      reset = discarding _ _ _ discarded.reset;
      close_read = plays _ discarded.close_read;
      reset_read = plays _ discarded.reset_read;
      late = plays _ discarded.late;
      refused_close = plays _ discarded.refused_close;
      beside_create = plays _ discarded.beside_create;
    }
