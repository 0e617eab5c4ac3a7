-- What the observer counts of the bench's own calls (`tallied`): each puts packets on one wire at most, and hands out no message that is astray.
-- Assumes nothing.
use Prim.Native.Nat.{ℕ}
use mathlib.Core.Path.{◌≡◌, refl, ap, ◌∙◌}
use mathlib.Core.Bool.{Bool}
use mathlib.Core.List.{List, [], ◌∷◌, append-nil}
use lib.Dec.{eqb}
use Rattle.octets.specs.Octets.{Octets}
use Rattle.packets.specs.Types.{mt_command}
use Rattle.packets.specs.Segments.{Segment}
use Rattle.state.proofs.Chains.{on}
use Rattle.wires.specs.Meaning.{Meaning, datum, control, junk, meaning}
use Rattle.model.specs.State.{State, is_open, with_down, with_up}
use Rattle.model.specs.Effects.{Call, fresh, power, command, send, push, down, consume, credit, air, reply, up, report, taken, Effect}
use Rattle.model.specs.Refusals.{is_held}
use Rattle.model.specs.Runs.{whole_by}
use Rattle.model.specs.calls.Push.{pushing}
use Rattle.model.specs.calls.Down.{answering, arriving, taking_down}
use Rattle.model.specs.calls.Consume.{consuming}
use Rattle.model.specs.calls.Reply.{replying}
use Rattle.model.specs.calls.Up.{hearing, coming, taking_up}
use Rattle.model.specs.Bench.{act}
use Rattle.model.specs.Observer.{Event, Account, Ledger, puts_down, puts_up, stray_heard, stray_read, stray_of, astray, acted, seen, event_of}
use Rattle.model.specs.invariant.Bench.{account_of, tallied}

-- ---- nothing put, nothing astray

none_down : (o : Account) → puts_down [] o ≡ o
none_down o i = record { down = append-nil o.down i; up = o.up; aim = o.aim; ledger = o.ledger; stray = o.stray }

none_up : (o : Account) → puts_up [] o ≡ o
none_up o i = record { down = o.down; up = append-nil o.up i; aim = o.aim; ledger = o.ledger; stray = o.stray }

none_stray : (o : Account) → astray [] o ≡ o
none_stray o i = record { down = o.down; up = o.up; aim = o.aim; ledger = o.ledger; stray = append-nil o.stray i }

module _ (c : Call) (e : Event) (o : Account) (m : stray_of c o.up e.message ≡ []) where
  inner : astray (stray_of c o.up e.message) (acted c e o) ≡ acted c e o
  inner = ap (λ (ms : List Octets). astray ms (acted c e o)) m ∙ none_stray (acted c e o)

  puts_down_law : e.to_up ≡ [] → seen c e o ≡ puts_down e.to_down (acted c e o)
  puts_down_law u = (λ i. puts_up (u i) (puts_down e.to_down (inner i))) ∙ none_up (puts_down e.to_down (acted c e o))

  puts_up_law : e.to_down ≡ [] → seen c e o ≡ puts_up e.to_up (acted c e o)
  puts_up_law d = ap (puts_up e.to_up) ((λ i. puts_down (d i) (inner i)) ∙ none_down (acted c e o))

  puts_none : e.to_down ≡ [] → e.to_up ≡ [] → seen c e o ≡ acted c e o
  puts_none d u = puts_up_law d ∙ ap (λ (ps : List Octets). puts_up ps (acted c e o)) u ∙ none_up (acted c e o)

-- ---- what each call puts and hands out

-- down puts packets on the up wire alone
record UpAlone (e : Effect) : Type 0 where
  to_down : e.to_down ≡ []
  message : e.message ≡ []

down_alone : (w : List Octets) (s : State) → UpAlone (taking_down w s)
down_alone [] s = record { to_down = refl; message = refl }
down_alone (p ∷ w) s = go (meaning p) (with_down w s)
  where
    answered : (gid oid : ℕ) (ms : List Octets) (b : Bool) (t : State) → UpAlone (answering gid oid ms b t)
    answered gid oid [] b t = record { to_down = refl; message = refl }
    answered gid oid (m ∷ ms) b t = record { to_down = refl; message = refl }

    go : (q : Meaning) (t : State) → UpAlone (arriving q p t)
    go (datum c n x) t = on UpAlone (is_open t c) (λ _. record { to_down = refl; message = refl }) (λ _. record { to_down = refl; message = refl })
    go (control mt gid oid x) t = on UpAlone (eqb mt mt_command) (λ _. answered gid oid (whole_by t.asking mt_command gid oid x) _ _) (λ _. record { to_down = refl; message = refl })
    go junk t = record { to_down = refl; message = refl }

-- up puts none, and hands out messages of data alone
record Silent (w : List Octets) (e : Effect) : Type 0 where
  to_down : e.to_down ≡ []
  to_up : e.to_up ≡ []
  stray : stray_read w e.message ≡ []

record Heard (q : Meaning) (e : Effect) : Type 0 where
  to_down : e.to_down ≡ []
  to_up : e.to_up ≡ []
  stray : stray_heard q e.message ≡ []

up_silent : (w : List Octets) (s : State) → Silent w (taking_up w s)
up_silent [] s = record { to_down = refl; to_up = refl; stray = refl }
up_silent (p ∷ w) s = let r = go (meaning p) (with_up w s) in record { to_down = r.to_down; to_up = r.to_up; stray = r.stray }
  where
    understood : (mt gid oid : ℕ) (x : Segment) (ms : List Octets) (b : Bool) (t : State) → Heard (control mt gid oid x) (hearing mt gid oid ms b t)
    understood mt gid oid x [] b t = record { to_down = refl; to_up = refl; stray = refl }
    understood mt gid oid x (m ∷ ms) b t = record { to_down = refl; to_up = refl; stray = refl }

    go : (q : Meaning) (t : State) → Heard q (coming q t)
    go (datum c n x) t = on (Heard (datum c n x)) (is_held t c) (λ _. record { to_down = refl; to_up = refl; stray = refl }) (λ _. record { to_down = refl; to_up = refl; stray = refl })
    go (control mt gid oid x) t =
        on (Heard (control mt gid oid x)) (eqb mt mt_command) (λ _. record { to_down = refl; to_up = refl; stray = refl })
        (λ _. understood mt gid oid x (whole_by t.hearing mt gid oid x) _ _)
    go junk t = record { to_down = refl; to_up = refl; stray = refl }

-- ---- so the count of a call is the plain one

module _ (s : State) (aim : ℕ) (l : ℕ → Ledger) where
  abbrev o : Account
  o = account_of s aim l

  abbrev doing : Call → Effect → Event
  doing c e = event_of c (record { answer = taken; effect = e })

  abbrev event : Call → Event
  event c = doing c (act c s)

  pub seen_tallied : (c : Call) → seen c (event c) o ≡ tallied c (event c) o
  seen_tallied (fresh m) = refl
  seen_tallied power = refl
  seen_tallied (command gid oid m) = puts_down_law (command gid oid m) (event (command gid oid m)) o refl refl
  seen_tallied (send c m) = puts_none (send c m) (event (send c m)) o refl refl refl
  seen_tallied (push c) = go (s.conns c).host.hand
    where
      go : (ss : List Segment) → seen (push c) (doing (push c) (pushing c ss s)) o ≡ tallied (push c) (doing (push c) (pushing c ss s)) o
      go [] = puts_down_law (push c) (doing (push c) (pushing c [] s)) o refl refl
      go (x ∷ ss) = puts_down_law (push c) (doing (push c) (pushing c (x ∷ ss) s)) o refl refl
  seen_tallied down = let r = down_alone s.down s in puts_up_law down (event down) o r.message r.to_down
  seen_tallied (consume c) = go (s.conns c).controller.store
    where
      go : (w : List Octets) → seen (consume c) (doing (consume c) (consuming c w s)) o ≡ tallied (consume c) (doing (consume c) (consuming c w s)) o
      go [] = puts_up_law (consume c) (doing (consume c) (consuming c [] s)) o refl refl
      go (p ∷ w) = puts_up_law (consume c) (doing (consume c) (consuming c (p ∷ w) s)) o refl refl
  seen_tallied credit = puts_up_law credit (event credit) o refl refl
  seen_tallied (air m) = puts_up_law (air m) (event (air m)) o refl refl
  seen_tallied reply = go (s.conns 0).controller.speech
    where
      go : (ss : List Segment) → seen reply (doing reply (replying ss s)) o ≡ tallied reply (doing reply (replying ss s)) o
      go [] = puts_up_law reply (doing reply (replying [] s)) o refl refl
      go (x ∷ ss) = puts_up_law reply (doing reply (replying (x ∷ ss) s)) o refl refl
  seen_tallied up = let r = up_silent s.up s in puts_none up (event up) o r.stray r.to_down r.to_up
  seen_tallied (report c) = puts_none (report c) (event (report c)) o refl refl refl
