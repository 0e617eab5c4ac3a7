-- What each call on the model keeps holds of the state that every run on octets leaves, and so does what it keeps together with a diary of what is seen.
-- Assumes nothing.
use Prim.Native.Nat.{ℕ}
use mathlib.Core.Path.{◌≡◌, refl, sym, ap, ◌∙◌, subst}
use mathlib.Core.List.{List, [], ◌∷◌}
use Rattle.octets.specs.Octets.{Octets}
use Rattle.octets.specs.Octal.{Octal}
use Rattle.calls.specs.Kinds.{Profile}
use Rattle.state.specs.Profile.{profile_in, ProfileWithin}
use Rattle.views.specs.View.{view_of}
use Rattle.model.specs.State.{State, cold}
use Rattle.model.specs.Effects.{taken, refused}
use Rattle.model.specs.Observer.{Event, Account, opening, observe}
use Rattle.model.specs.Reachable.{LoopbacksPaid}
use Rattle.state.proofs.Limits.{profile_limits}
use Rattle.model.specs.invariant.Bench.{Kept}
use Rattle.model.proofs.Always.{Stays, step_stays, Noting, Notes}
use Rattle.model.proofs.Paid.{act_paid, cold_paid}
use Rattle.calls.specs.Word.{answer_in}
use Rattle.calls.specs.Outcome.{Outcome, outcome}
use Rattle.calls.specs.Seen.{Puts, no_puts, puts_after, seen_by}
use Rattle.calls.specs.calls.Fresh.{fresh_call}
use Rattle.calls.specs.Demand.{Key, pressed, slice, AllOctal, area_after, seen_in, EveryRun}
use Rattle.calls.specs.Reached.{AlwaysPaid}
use Rattle.calls.proofs.FreshPower.{fresh_view}
use Rattle.calls.proofs.Demand.{Stands, pressed_by, stands_within, press, started, starts_standing}

module _ (P : State → Type 0) (stays : Stays P) (start : (p : Profile) → ProfileWithin p → P (cold p)) where
  press_keeps : (k : Key) → Octal (slice k.call) → (a : Octets) (p : Puts) (o : Account) → Stands a p o → P (view_of a) → P (view_of (pressed k a).area)
  press_keeps k v a p o s h = (pressed_by (λ e x. P x) k v a p s.good s.along (stands_within a p o s k) h (step_stays P stays k.call (view_of a) o s.keeps h)).holds

  keys_keep : (ks : List Key) → AllOctal ks → (a : Octets) (p : Puts) (o : Account) → Stands a p o → P (view_of a) → P (view_of (area_after ks a))
  unfolding area_after
  keys_keep [] v a p o s h = h
  keys_keep (k ∷ ks) v a p o s h =
      keys_keep ks v.1 (pressed k a).area (puts_after k.call p (pressed k a).word) (observe (seen_by k.call p (pressed k a)) o) (press k v.0 a p o s)
      (press_keeps k v.0 a p o s h)

  pub every_run : EveryRun (λ a p o. P (view_of a))
  every_run area out profile v e keys w =
      let t = started area out profile e in
      keys_keep keys w (fresh_call area out profile).area no_puts opening (starts_standing area out profile v e)
      (subst P (sym (fresh_view area profile t.long v t.ok out) ∙ ap (λ (x : Outcome). view_of x.area) t.taking)
      (start (profile_in profile) (profile_limits profile t.ok)))

-- a loopback owes nothing between calls
pub always_paid : AlwaysPaid
always_paid = every_run LoopbacksPaid act_paid (λ p l. cold_paid p)

-- ---- with a diary of what is seen

module _ {D : Type 0} (d : Noting D) (P : State → D → Type 0) (keeps : Notes d P)
    (refuses : (e : Event) (i : ℕ) → e.answer ≡ refused i → (s : State) (o : Account) (n : D) → Kept s o → P s n → P s (d.note e o n)) where
  press_noted : (k : Key) → Octal (slice k.call) → (a : Octets) (p : Puts) (o : Account) → Stands a p o → (n : D) → P (view_of a) n
      → P (view_of (pressed k a).area) (d.note (seen_by k.call p (pressed k a)) o n)
  unfolding answer_in
  press_noted k v a p o s n h =
      (pressed_by (λ e x. P x (d.note e o n)) k v a p s.good s.along (stands_within a p o s k)
      (refuses (seen_by k.call p (outcome 2 a k.out)) 2 refl (view_of a) o n s.keeps h) (keeps k.call (view_of a) o n s.keeps h)).holds

  keys_noted : (ks : List Key) → AllOctal ks → (a : Octets) (p : Puts) (o : Account) → Stands a p o → (n : D) → P (view_of a) n
      → P (view_of (area_after ks a)) (d.diary (seen_in ks p a) o n)
  unfolding area_after seen_in
  keys_noted [] v a p o s n h = subst (P (view_of a)) (sym (d.none o n)) h
  keys_noted (k ∷ ks) v a p o s n h =
      subst (P (view_of (area_after ks (pressed k a).area))) (sym (d.more _ _ o n))
      (keys_noted ks v.1 (pressed k a).area (puts_after k.call p (pressed k a).word) (observe (seen_by k.call p (pressed k a)) o) (press k v.0 a p o s)
      (d.note (seen_by k.call p (pressed k a)) o n) (press_noted k v.0 a p o s n h))

  pub run_noted : (n : D) → ((p : Profile) → ProfileWithin p → P (cold p) n) → (area out profile : Octets) → Octal area
      → answer_in (fresh_call area out profile).word ≡ taken → (keys : List Key) → AllOctal keys
      → P (view_of (area_after keys (fresh_call area out profile).area)) (d.diary (seen_in keys no_puts (fresh_call area out profile).area) opening n)
  run_noted n start area out profile v e keys w =
      let t = started area out profile e in
      keys_noted keys w (fresh_call area out profile).area no_puts opening (starts_standing area out profile v e) n
      (subst (λ (x : State). P x n) (sym (fresh_view area profile t.long v t.ok out) ∙ ap (λ (x : Outcome). view_of x.area) t.taking)
      (start (profile_in profile) (profile_limits profile t.ok)))
