-- The packets that are seen of a call are those that the packet reader hands out after it.
-- Assumes nothing.
use Prim.Native.Nat.{ℕ, ◌+◌, ◌≤◌}
use mathlib.Core.Path.{◌≡◌, refl, sym, ap, ◌∙◌, subst}
use mathlib.Core.Bool.{Bool, true, false, false≢true}
use mathlib.Core.List.{[]}
use lib.ListN.{length}
use lib.Dec.{ltb}
use borrow.Author.Tests.{ltb-true, ltb-false}
use Rattle.octets.specs.Octets.{Octets, pick}
use Rattle.octets.specs.Octal.{Octal}
use Rattle.state.proofs.Chains.{and_right}
use Rattle.area.specs.Map.{message_size, down_at, up_at, wire_slots}
use Rattle.area.specs.Ring.{tab, packets_from}
use Rattle.area.proofs.Rings.{length_tab}
use Rattle.views.specs.View.{view_of}
use Rattle.model.specs.State.{State}
use Rattle.model.specs.Effects.{Call, Result, Effect, fresh, power, command, send, push, down, consume, credit, air, reply, up, report, taken, refused, is_taken}
use Rattle.model.specs.Refusals.{first}
use Rattle.model.specs.Bench.{rules, judged, step}
use Rattle.model.specs.Observer.{Event, Account}
use Rattle.calls.specs.Word.{answer_in, down_in, up_in}
use Rattle.calls.specs.Outcome.{Outcome, outcome}
use Rattle.calls.specs.Seen.{Puts, no_puts, starts, restarts, seen_by}
use Rattle.calls.specs.Refines.{Good, Along, Refines}
use Rattle.calls.specs.Packet.{last_packets}
use Rattle.calls.specs.Demand.{Key, pressed, slice}
use Rattle.calls.specs.Reached.{AlwaysDisplayed}
use Rattle.calls.proofs.Refine.{refined_good}
use Rattle.calls.proofs.Packet.{down_shown, up_shown}
use Rattle.calls.proofs.Demand.{all_refine, short_buffer, Stands, stands_within, run_stands}

-- ---- no packet

abbrev Nothing : Effect → Type 0
Nothing e = (e.to_down ≡ []) × (e.to_up ≡ [])

-- fresh and power put none
begins_empty : (c : Call) (s : State) → starts c ≡ true → Nothing (step c s).effect
unfolding step
begins_empty (fresh m) s e = go (first (rules (fresh m) s))
  where
    go : (r : Result) → Nothing (judged r (fresh m) s).effect
    go taken = (refl, refl)
    go (refused n) = (refl, refl)
begins_empty power s e = go (first (rules power s))
  where
    go : (r : Result) → Nothing (judged r power s).effect
    go taken = (refl, refl)
    go (refused n) = (refl, refl)
begins_empty (command gid oid m) s e = absurd (false≢true e)
begins_empty (send c m) s e = absurd (false≢true e)
begins_empty (push c) s e = absurd (false≢true e)
begins_empty down s e = absurd (false≢true e)
begins_empty (consume c) s e = absurd (false≢true e)
begins_empty credit s e = absurd (false≢true e)
begins_empty (air m) s e = absurd (false≢true e)
begins_empty reply s e = absurd (false≢true e)
begins_empty up s e = absurd (false≢true e)
begins_empty (report c) s e = absurd (false≢true e)

-- of none the reader hands out none
none_shown : (a : Octets) (outs : ℕ → Octets) (wire base p n : ℕ) → n ≡ 0 → last_packets a outs wire n ≡ packets_from base wire_slots a p n
unfolding last_packets packets_from tab
none_shown a outs wire base p n e = subst (λ (m : ℕ). last_packets a outs wire m ≡ packets_from base wire_slots a p m) (sym e) refl

-- as many are seen as the word says
count_none : (base : ℕ) (a : Octets) (p n : ℕ) → packets_from base wire_slots a p n ≡ [] → n ≡ 0
unfolding packets_from
count_none base a p n e = sym (length_tab _ p n) ∙ ap length e

-- ---- a call

-- on both wires
abbrev Shows : (ℕ → Octets) → Call → Puts → Outcome → Type 0
Shows outs c p x =
    (last_packets x.area outs 0 (down_in x.word) ≡ (seen_by c p x).to_down) × (last_packets x.area outs 1 (up_in x.word) ≡ (seen_by c p x).to_up)

module _ (outs : ℕ → Octets) where
  module _ (c : Call) (p : Puts) (a : Octets) (x : Outcome) (r : Refines c p a x) (good : Good x.area) (room : (i : ℕ) → message_size ≤ length (outs i)) where
    by_start : (b : Bool) → restarts c (answer_in x.word) ≡ b
        → Along (pick b no_puts (record { down = p.down + down_in x.word; up = p.up + up_in x.word })) x.area → Shows outs c p x
    by_start true e al =
        let z = begins_empty c (view_of a) (and_right (is_taken (answer_in x.word)) (starts c) e) in (
          none_shown x.area outs 0 down_at p.down (down_in x.word)
              (count_none down_at x.area p.down (down_in x.word) (ap (λ (y : Event). y.to_down) r.event ∙ z.0)),
          none_shown x.area outs 1 up_at p.up (up_in x.word)
              (count_none up_at x.area p.up (up_in x.word) (ap (λ (y : Event). y.to_up) r.event ∙ z.1)),
        )
    by_start false e al = (
      down_shown x.area outs good room _ al p.down (down_in x.word) refl r.there.down,
      up_shown x.area outs good room _ al p.up (up_in x.word) refl r.there.up,
    )

    -- of every call that is the model's step and leaves a good record
    pub refined_shown : Shows outs c p x
    refined_shown = by_start (restarts c (answer_in x.word)) refl r.along

  -- of one that is refused for its buffer
  short_shown : (c : Call) (p : Puts) (a out : Octets) → Shows outs c p (outcome 2 a out)
  unfolding down_in up_in
  short_shown c p a out = (none_shown a outs 0 down_at p.down 0 refl, none_shown a outs 1 up_at p.up 0 refl)

shown : (a : Octets) (p : Puts) (o : Account) → Stands a p o → (k : Key) → Octal (slice k.call) → (outs : ℕ → Octets) → ((i : ℕ) → message_size ≤ length (outs i))
    → Shows outs k.call p (pressed k a)
shown a p o s k v outs room = go (ltb (length k.out) message_size) refl
  where
    go : (b : Bool) → ltb (length k.out) message_size ≡ b → Shows outs k.call p (pressed k a)
    go true e =
        subst (Shows outs k.call p) (short_buffer a k.out s.good (ltb-true (length k.out) message_size e) k.call)
        (short_shown outs k.call p a k.out)
    go false e =
        let r = all_refine k.call p a k.out v s.good (ltb-false (length k.out) message_size e) s.along in
        refined_shown outs k.call p a (pressed k a) r (refined_good k.call p a (pressed k a) s.good r (stands_within a p o s k)) room

pub always_displayed : AlwaysDisplayed
always_displayed area out m v e keys w =
    let s = run_stands area out m v e keys w in
    record { down = λ k u outs room. (shown _ _ _ s k u outs room).0; up = λ k u outs room. (shown _ _ _ s k u outs room).1 }
