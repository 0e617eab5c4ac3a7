-- Credits stay within the grant: on a bench that calls from a fresh one have made, what number 13 asked never holds of a call that is taken, so the rules
-- with it gave what the rules without it give.
-- Assumes nothing.
use Prim.Native.Nat.{ℕ, ◌+◌, ◌≤◌, ◌<◌}
use native.Mathlib.Omega.{arith}
use mathlib.Core.Path.{◌≡◌, refl, sym, ap, ◌∙◌, subst}
use mathlib.Core.Logic.{◌⊎◌, inl, inr}
use mathlib.Core.Bool.{Bool, true, false, not, ◌&&◌, ◌||◌}
use mathlib.Core.List.{List, [], ◌∷◌, ◌++◌}
use lib.Dec.{eqb, leb}
use lib.ListN.{length}
use borrow.Author.Tests.{not-false, lt-leb, le-ltb, eq-eqb}
use Rattle.std.specs.Prelude.{Option}
use Rattle.octets.specs.Octets.{Octets, pick}
use Rattle.packets.specs.Segments.{Segment, more, last}
use Rattle.packets.specs.Reassembly.{Run, run, finished}
use Rattle.packets.proofs.Reassembly.{within}
use Rattle.model.specs.Kinds.{Asked, Answer, Heard}
use Rattle.model.specs.Kinds.answer.{Done, ClosesAll, Sized, Opens, Closes}
use Rattle.model.specs.Kinds.heard.{Answered}
use Rattle.state.specs.Conn.{flows}
use Rattle.state.specs.Runs.{control_limit}
use Rattle.state.specs.Commands.{command_of}
use Rattle.dh.specs.Contents.{written}
use Rattle.dh.specs.Host.{answer_of, heard_written, aim_of, expected, hear_of}
use Rattle.state.proofs.Chains.{on, or_left, or_right}
use Rattle.wires.specs.Meaning.{Meaning, datum, control, junk, meaning}
use Rattle.wires.specs.Tally.{says}
use Rattle.model.specs.State.{State, is_open, with_up}
use Rattle.model.specs.Effects.{Call, fresh, power, command, send, push, down, consume, credit, air, reply, up, report, Result, taken, refused}
use Rattle.model.specs.Refusals.{Rule, rule, first, is_nil, is_held, ids}
use Rattle.model.specs.Runs.{same_run, whole_by}
use Rattle.ends.specs.Changes.{Change, credits_of, change_heard}
use Rattle.model.specs.Bench.{rules, judged}
use Rattle.model.specs.Grants.{WithinGrants, owes_all, passing, above, any_of, too_many, first_too_many, past_grant, checked_rules}
use Rattle.model.specs.Observer.{Ledger, Account}
use Rattle.model.specs.Reachable.{Always, NeverPast}
use Rattle.model.specs.invariant.Items.{items_of}
use Rattle.model.specs.invariant.Bench.{Fine, Kept, SoundIn}
use Rattle.model.proofs.Cases.{clash}
use Rattle.model.proofs.Needs.{need}
use Rattle.model.proofs.Link.{held_le, owed_le, room_owed, room_by}
use Rattle.model.proofs.Meanings.{hear_notice}
use Rattle.model.proofs.Trace.{reachable}

-- ---- rules

-- the answer of a call is what its rules say
pub answer_first : (r : Result) (c : Call) (s : State) → (judged r c s).answer ≡ r
answer_first taken c s = refl
answer_first (refused n) c s = refl

-- whether a rule of number n is among them
abbrev pub mentions : ℕ → List Rule → Bool
mentions n [] = false
mentions n (r ∷ rs) = eqb r.number n || mentions n rs

-- a refusal, as a number
abbrev coded : Result → ℕ
coded taken = 0
coded (refused n) = n

-- a number that no rule has is not the answer
pub not_among : (n : ℕ) (rs : List Rule) → 0 < n → mentions n rs ≡ false → first rs ≡ refused n → ⊥
unfolding first
not_among n [] z m e = let h : 0 ≡ n = ap coded e in omega arith
not_among n (r ∷ rs) z m e = go (not_among n rs z (or_right (eqb r.number n) (mentions n rs) m)) r.test e
  where
    go : (first rs ≡ refused n → ⊥) → (b : Bool) → pick b (refused r.number) (first rs) ≡ refused n → ⊥
    go ih true e = clash (eq-eqb r.number n (ap coded e)) (or_left (eqb r.number n) (mentions n rs) m)
    go ih false e = ih e

-- a last rule whose test fails wherever the others pass changes nothing
last_fails : (n : ℕ) (rs : List Rule) (b : Bool) → (first rs ≡ taken → b ≡ false) → first (rs ++ (rule n b ∷ [])) ≡ first rs
unfolding first
last_fails n [] b h = rw (h refl)
last_fails n (r ∷ rs) b h = go (last_fails n rs b) r.test refl
  where
    go : ((first rs ≡ taken → b ≡ false) → first (rs ++ (rule n b ∷ [])) ≡ first rs) → (x : Bool) → r.test ≡ x
        → first ((r ∷ rs) ++ (rule n b ∷ [])) ≡ first (r ∷ rs)
    go ih true e = rw e
    go ih false e = rw e (ih (λ t. h (rw e t)))

-- ---- consume

module _ (s : State) (aim : ℕ) (l : ℕ → Ledger) (f : Fine s aim l) (c : ℕ) where
  -- while a packet is stored, not all of the grant is owed
  not_all_owed : (st : List Octets) → (s.conns c).controller.store ≡ st → is_nil st ≡ false → is_open s c ≡ true → owes_all s c ≡ false
  not_all_owed [] e n o = clash refl n
  not_all_owed (p ∷ st) e n o = go (flows (s.conns c).controller.grant) refl
    where
      go : (b : Bool) → flows (s.conns c).controller.grant ≡ b → (b && leb (s.conns c).controller.grant (s.conns c).controller.owed) ≡ false
      go true y = lt-leb (s.conns c).controller.grant (s.conns c).controller.owed (room_owed o y (omega (arith, ap length e)) (f.good c).numbers)
      go false y = refl

  consume_never : first (rules (consume c) s) ≡ taken → owes_all s c ≡ false
  consume_never t =
      not_all_owed (s.conns c).controller.store refl (need 8 (rules (consume c) s) t) (not-false _ (need 6 (rules (consume c) s) t))

-- ---- up

-- an answer gives no credits
answered_none : (a : Answer) (m : Octets) (d : ℕ) → credits_of (change_heard (Answered a) m d) ≡ 0
answered_none Done m d = refl
answered_none ClosesAll m d = refl
answered_none (Sized n) m d = refl
answered_none (Opens c t) m d = on (λ (x : Change). credits_of x ≡ 0) (eqb c d) (λ e. refl) (λ e. refl)
answered_none (Closes c) m d = on (λ (x : Change). credits_of x ≡ 0) (eqb c d) (λ e. refl) (λ e. refl)

response_none : (p : Option Asked) (gid oid : ℕ) (m : Octets) (d : ℕ) → credits_of (change_heard (hear_of p 2 gid oid m) m d) ≡ 0
unfolding hear_of heard_written
response_none p gid oid m d =
    on (λ (h : Heard). credits_of (change_heard h m d) ≡ 0) (expected p 2 gid oid)
    (λ e. on (λ (h : Heard). credits_of (change_heard h m d) ≡ 0) (written 2 gid oid m) (λ w. answered_none (answer_of (command_of gid oid) (aim_of p) m) m d) (λ w. refl))
    (λ e. refl)

none_of : (f : ℕ → Bool) (cs : List ℕ) → ((c : ℕ) → f c ≡ false) → any_of f cs ≡ false
unfolding any_of
none_of f [] h = refl
none_of f (c ∷ cs) h = rw (h c) (none_of f cs h)

module _ (s : State) (aim : ℕ) (l : ℕ → Ledger) (p : Octets) (w : List Octets) (f : Fine (with_up (p ∷ w) s) aim l) where
  -- within the grant, no connection is brought above it
  not_above : (d n : ℕ) → (s.conns d).host.held + n ≤ (s.conns d).host.grant → passing (with_up (p ∷ w) s) d n ≡ false
  not_above d n e = go (is_held s d) (flows (s.conns d).host.grant) (le-ltb (s.conns d).host.grant ((s.conns d).host.held + n) e)
    where
      go : (a b : Bool) {c : Bool} → c ≡ false → (a && b && c) ≡ false
      go true true z = z
      go true false z = refl
      go false b z = refl

  -- what the packet's contents, of message type mt, give to a connection has room
  abbrev Room : ℕ → ℕ → ℕ → Octets → Type 0
  Room mt gid oid m = (d : ℕ) → (s.conns d).host.held + credits_of (change_heard (hear_of s.host.pending mt gid oid m) m d) ≤ (s.conns d).host.grant

  response_room : (gid oid : ℕ) (m : Octets) → Room 2 gid oid m
  response_room gid oid m d = omega (arith, response_none s.host.pending gid oid m d, held_le (f.good d).numbers)

  notice_room : (gid oid : ℕ) (m : Octets) → meaning p ≡ control 3 gid oid (last m) → Room 3 gid oid m
  unfolding items_of
  notice_room gid oid m means d =
      rw (hear_notice s.host.pending aim gid oid m)
      (room_by (change_heard (says aim 3 gid oid m) m d) (items_of aim d w) (rw means at (f.good d).numbers))

  -- the host's run is at its start, so a packet of a whole message finishes it
  pub heard_whole : (mt gid oid : ℕ) (m : Octets) → length m ≤ control_limit → whole_by s.hearing mt gid oid (last m) ≡ m ∷ []
  heard_whole mt gid oid m short =
      subst (λ (r : Run). finished control_limit r (last m) ≡ m ∷ [])
      (on (λ (r : Run). run [] ≡ r) (same_run s.hearing mt gid oid) (λ e. sym f.heard) (λ e. refl))
      (rw (within control_limit [] m short))

  data_room : (c n : ℕ) (x : Segment) → meaning p ≡ datum c n x → (s.conns c).host.held + n ≤ (s.conns c).host.grant
  unfolding items_of
  data_room c n x means = omega (arith, (rw (means, eq-eqb c c refl) at (f.good c).numbers).debts.bound)

  not_too_many : (q : Meaning) → meaning p ≡ q → SoundIn q → too_many (with_up (p ∷ w) s) q ≡ false
  not_too_many (datum c n x) means k = not_above c n (data_room c n x means)
  not_too_many (control mt gid oid (more b)) means k = absurd k
  not_too_many (control mt gid oid (last m)) means k = rw (heard_whole mt gid oid m k.1) (go k.0)
    where
      Spared : ℕ → Type 0
      Spared n = (not (eqb n 1) && any_of (above (with_up (p ∷ w) s) (hear_of s.host.pending n gid oid m) m) ids) ≡ false

      spared : (n : ℕ) → Room n gid oid m → Spared n
      spared n room =
          rw (none_of (above (with_up (p ∷ w) s) (hear_of s.host.pending n gid oid m) m) ids (λ d. not_above d (credits_of (change_heard (hear_of s.host.pending n gid oid m) m d)) (room d)))
          (elim (not (eqb n 1)) as (λ b. (b && false) ≡ false) [ true ↦ refl | false ↦ refl ])

      go : ((mt ≡ 2) × (written 2 gid oid m ≡ true)) ⊎ (mt ≡ 3) → Spared mt
      go (inl e) = subst Spared (sym e.0) (spared 2 (response_room gid oid m))
      go (inr e) = subst Spared (sym e) (spared 3 (notice_room gid oid m (means ∙ ap (λ (n : ℕ). control n gid oid (last m)) e)))
  not_too_many junk means k = refl

up_never : (s : State) (aim : ℕ) (l : ℕ → Ledger) → Fine s aim l → first_too_many s s.up ≡ false
up_never s aim l f = go s.up f
  where
    go : (w : List Octets) → Fine (with_up w s) aim l → first_too_many (with_up w s) w ≡ false
    go [] f = refl
    go (p ∷ w) f = not_too_many s aim l p w f (meaning p) refl f.sound.0

-- ---- every call

never : (c : Call) (s : State) (aim : ℕ) (l : ℕ → Ledger) → Fine s aim l → first (rules c s) ≡ taken → past_grant c s ≡ false
never (fresh m) s aim l f t = refl
never power s aim l f t = refl
never (command gid oid m) s aim l f t = refl
never (send c m) s aim l f t = refl
never (push c) s aim l f t = refl
never down s aim l f t = refl
never (consume c) s aim l f t = consume_never s aim l f c t
never credit s aim l f t = refl
never (air m) s aim l f t = refl
never reply s aim l f t = refl
never up s aim l f t = up_never s aim l f
never (report c) s aim l f t = refl

-- they follow from the invariant, whatever made it hold
module _ (s : State) (o : Account) (k : Kept s o) where
  pub kept_never : NeverPast s
  kept_never c = never c s o.aim o.ledger k.fine

  pub kept_rules : (c : Call) → first (checked_rules c s) ≡ first (rules c s)
  kept_rules c = last_fails 13 (rules c s) (past_grant c s) (kept_never c)

  pub kept_within : WithinGrants s
  kept_within d five = record { held = held_le (k.fine.good d).numbers; owed = owed_le (k.fine.good d).numbers }

pub never_past : Always NeverPast
never_past profile ok calls = kept_never _ _ (reachable profile ok calls)
