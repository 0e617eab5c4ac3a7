-- Induction over the list of calls: what a fresh bench has, and each call that is taken keeps, holds after every list of calls; and so does what it has together with
-- a diary of the calls.
-- Assumes nothing.
use Prim.Native.Nat.{ℕ}
use mathlib.Core.Path.{◌≡◌, refl, sym, subst}
use mathlib.Core.Bool.{true}
use mathlib.Core.List.{List, [], ◌∷◌}
use Rattle.model.specs.Kinds.{Profile}
use Rattle.octets.specs.Octets.{Octets}
use Rattle.model.specs.State.{State, cold}
use Rattle.state.specs.Profile.{profile_in, profile_octets_ok, ProfileWithin}
use Rattle.model.specs.Effects.{Call, Result, taken, refused}
use Rattle.model.specs.Refusals.{first}
use Rattle.model.specs.Bench.{rules, act, judged, step}
use Rattle.model.specs.Observer.{Ledger, Event, Account, opening, observe, event_of, events, after}
use Rattle.model.specs.Reachable.{Always}
use Rattle.state.proofs.Limits.{profile_limits}
use Rattle.model.specs.invariant.Bench.{Fine, Kept}
use Rattle.model.proofs.Fine.{kept, cold_fine}
use Rattle.model.proofs.Trace.{step_keeps}

-- each call that is taken on a bench with demand 3's invariant keeps P
abbrev pub Stays : (State → Type 0) → Type 0
Stays P = (c : Call) (s : State) (aim : ℕ) (l : ℕ → Ledger) → first (rules c s) ≡ taken → Fine s aim l → P s → P (act c s).next

module _ (P : State → Type 0) (stays : Stays P) where
  pub step_stays : (c : Call) (s : State) (o : Account) → Kept s o → P s → P (step c s).effect.next
  unfolding step
  step_stays c s o k h = go (first (rules c s)) refl
    where
      go : (r : Result) → first (rules c s) ≡ r → P (judged r c s).effect.next
      go taken e = stays c s o.aim o.ledger e k.fine h
      go (refused n) e = h

  after_stays : (cs : List Call) (s : State) (o : Account) → Kept s o → P s → P (after cs s)
  unfolding after
  after_stays [] s o k h = h
  after_stays (c ∷ cs) s o k h = after_stays cs (step c s).effect.next (observe (event_of c (step c s)) o) (step_keeps c s o k) (step_stays c s o k h)

  pub always : ((p : Profile) → ProfileWithin p → P (cold p)) → Always P
  always start profile ok calls =
      let limits = profile_limits profile ok in
      after_stays calls (cold (profile_in profile)) opening (kept (cold_fine (profile_in profile) limits)) (start (profile_in profile) limits)

-- ---- a diary, kept beside the account

-- how a call is noted, where o is the account of those before it, and what a list of them comes to
pub record Noting (D : Type 0) : Type 0 where
  pub note : Event → Account → D → D
  pub diary : List Event → Account → D → D
  pub none : (o : Account) (n : D) → diary [] o n ≡ n
  pub more : (e : Event) (es : List Event) (o : Account) (n : D) → diary (e ∷ es) o n ≡ diary es (observe e o) (note e o n)

-- each call, taken or not, on a bench with demand 3's invariant keeps P of the bench and the diary
abbrev pub Notes : {D : Type 0} → Noting D → (State → D → Type 0) → Type 0
Notes {D} d P = (c : Call) (s : State) (o : Account) (n : D) → Kept s o → P s n → P (step c s).effect.next (d.note (event_of c (step c s)) o n)

module _ {D : Type 0} (d : Noting D) (P : State → D → Type 0) (keeps : Notes d P) where
  after_noted : (cs : List Call) (s : State) (o : Account) (n : D) → Kept s o → P s n → P (after cs s) (d.diary (events cs s) o n)
  unfolding after events
  after_noted [] s o n k h = subst (P s) (sym (d.none o n)) h
  after_noted (c ∷ cs) s o n k h =
      let later : Account = observe (event_of c (step c s)) o in
      subst (P (after cs (step c s).effect.next)) (sym (d.more _ _ o n))
      (after_noted cs (step c s).effect.next later (d.note (event_of c (step c s)) o n) (step_keeps c s o k) (keeps c s o n k h))

  pub always_noted : (n : D) → ((p : Profile) → ProfileWithin p → P (cold p) n) → (profile : Octets) → profile_octets_ok profile ≡ true → (calls : List Call)
      → P (after calls (cold (profile_in profile))) (d.diary (events calls (cold (profile_in profile))) opening n)
  always_noted n start profile ok calls =
      let limits = profile_limits profile ok in
      after_noted calls (cold (profile_in profile)) opening n (kept (cold_fine (profile_in profile) limits)) (start (profile_in profile) limits)
