-- Which reserved bits the calls tell: `RfuExact` and `AlwaysClear` of `specs/Reserved.antt`.
-- Assumes nothing.
use Prim.Native.Nat.{ℕ, ◌%◌, ◌≤◌, ◌<◌}
use mathlib.Core.Path.{◌≡◌, refl, sym, ap, ◌∙◌, subst}
use mathlib.Core.Bool.{Bool, true, false, ◌&&◌, not, false≢true}
use mathlib.Core.List.{List, [], ◌∷◌, ◌++◌}
use lib.ListN.{length}
use lib.Dec.{ltb, eqb}
use native.Mathlib.Omega.{arith}
use borrow.Author.Tests.{ltb-true, ltb-false, lt-ltb, eqb-false}
use Rattle.octets.specs.Octets.{Octets, pick}
use Rattle.octets.specs.Octal.{Octal}
use Rattle.packets.specs.Packet.{read_of}
use Rattle.packets.specs.Reserved.{rfu_by}
use Rattle.packets.specs.Segments.{Segment}
use Rattle.state.proofs.Chains.{pick_same}
use Rattle.calls.specs.Kinds.{Way, Record}
use Rattle.calls.specs.Kinds.way as way
use Rattle.area.specs.Map.{message_size}
use Rattle.record.specs.Reading.{decode_of}
use Rattle.views.specs.View.{view_of}
use Rattle.views.specs.Moves.{Sound}
use Rattle.views.proofs.Whole.{moves}
use Rattle.model.specs.State.{State}
use Rattle.model.specs.Effects.{Call, fresh, power, command, send, push, down, consume, credit, air, reply, up, report, Result, taken, refused, first_rfu, is_taken}
use Rattle.model.specs.Refusals.{first}
use Rattle.model.specs.calls.Push.{pushing}
use Rattle.model.specs.calls.Consume.{consuming}
use Rattle.model.specs.calls.Reply.{replying}
use Rattle.model.specs.Bench.{rules, act, judged, step}
use Rattle.model.specs.Observer.{Event}
use Rattle.model.specs.Reachable.{Each, Wires}
use Rattle.model.proofs.WellFormed.{SmallShaped, shaped_stays, shaped_start, wires}
use Rattle.calls.specs.Word.{number_of, answer_in, dropped_in, rfu_in}
use Rattle.calls.specs.Outcome.{Outcome, outcome}
use Rattle.calls.specs.Refines.{Good}
use Rattle.calls.specs.calls.Fresh.{quiet_word, room_rules, freshed, fresh_call}
use Rattle.calls.specs.Demand.{Key, perform, pressed, slice, area_after}
use Rattle.calls.specs.Reserved.{tellable, RfuExact, AlwaysClear}
use Rattle.calls.proofs.Rules.{small}
use Rattle.calls.proofs.Called.{sound_area}
use Rattle.calls.proofs.Words.{word_rfu}
use Rattle.calls.proofs.Refine.{refusal_answer, refusal_rfu, ring_puts, ring_along}
use Rattle.calls.proofs.Kept.{taken_refused, decided_by, is_fresh, entered_if_taken, refusals_keep}
use Rattle.calls.proofs.Down as downing
use Rattle.calls.proofs.UpPacket as upping
use Rattle.calls.proofs.Demand.{all_refine, short_buffer, run_stands}
use Rattle.calls.proofs.EveryRun.{every_run}

-- ---- on the model

-- those of the packet that the call would take
abbrev wire_rfu : Call → State → ℕ
wire_rfu (fresh m) s = 0
wire_rfu power s = 0
wire_rfu (command gid oid m) s = 0
wire_rfu (send c m) s = 0
wire_rfu (push c) s = 0
wire_rfu down s = first_rfu way.Down s.down
wire_rfu (consume c) s = 0
wire_rfu credit s = 0
wire_rfu (air m) s = 0
wire_rfu reply s = 0
wire_rfu up s = first_rfu way.Up s.up
wire_rfu (report c) s = 0

act_rfu : (c : Call) (s : State) → (act c s).rfu ≡ pick (act c s).drop 0 (wire_rfu c s)
act_rfu (fresh m) s = refl
act_rfu power s = refl
act_rfu (command gid oid m) s = refl
act_rfu (send c m) s = refl
act_rfu (push c) s = go (s.conns c).host.hand
  where
    go : (ss : List Segment) → (pushing c ss s).rfu ≡ pick (pushing c ss s).drop 0 0
    go [] = refl
    go (x ∷ ss) = refl
act_rfu down s = refl
act_rfu (consume c) s = go (s.conns c).controller.store
  where
    go : (w : List Octets) → (consuming c w s).rfu ≡ pick (consuming c w s).drop 0 0
    go [] = refl
    go (p ∷ w) = sym (pick_same (consuming c (p ∷ w) s).drop 0)
act_rfu credit s = refl
act_rfu (air m) s = refl
act_rfu reply s = go (s.conns 0).controller.speech
  where
    go : (ss : List Segment) → (replying ss s).rfu ≡ pick (replying ss s).drop 0 0
    go [] = refl
    go (x ∷ ss) = refl
act_rfu up s = refl
act_rfu (report c) s = refl

step_rfu : (c : Call) (s : State) → (step c s).effect.rfu ≡ pick (is_taken (step c s).answer && not (step c s).effect.drop) (wire_rfu c s) 0
unfolding step
step_rfu c s = go (first (rules c s))
  where
    turned : (b : Bool) → pick b 0 (wire_rfu c s) ≡ pick (not b) (wire_rfu c s) 0
    turned true = refl
    turned false = refl

    go : (r : Result) → (judged r c s).effect.rfu ≡ pick (is_taken (judged r c s).answer && not (judged r c s).effect.drop) (wire_rfu c s) 0
    go taken = act_rfu c s ∙ turned (act c s).drop
    go (refused n) = refl

-- ---- on octets

-- n is told exactly where the call is taken and the drop flag is not set
abbrev Tells : ℕ → Outcome → Type 0
Tells n o = rfu_in o.word ≡ pick (is_taken (answer_in o.word) && not (dropped_in o.word)) n 0

module _ (k : Key) (v : Octal (slice k.call)) (a : Octets) (g : Good a) where
  abbrev s : State
  s = view_of a

  -- a buffer too short is refused
  short : (n : ℕ) → length k.out < message_size → Tells n (pressed k a)
  unfolding rfu_in answer_in
  short n h = subst (Tells n) (short_buffer a k.out g h k.call) refl

  -- with room the word tells what the model's step tells, and so any n that is the wire's where the call is taken
  told : (n : ℕ) → (first (rules k.call s) ≡ taken → wire_rfu k.call s ≡ n) → message_size ≤ length k.out → Tells n (pressed k a)
  unfolding step
  told n same room =
      let e = (all_refine k.call (ring_puts a) a k.out v g room (ring_along a)).event in
      ap (λ (x : Event). x.rfu) e ∙ step_rfu k.call s ∙ go (first (rules k.call s)) refl
      ∙ sym (ap (λ (x : Event). pick (is_taken x.answer && not x.dropped) n 0) e)
    where
      go : (r : Result) → first (rules k.call s) ≡ r
          → pick (is_taken (judged r k.call s).answer && not (judged r k.call s).effect.drop) (wire_rfu k.call s) 0
          ≡ pick (is_taken (judged r k.call s).answer && not (judged r k.call s).effect.drop) n 0
      go taken t = ap (λ (m : ℕ). pick (is_taken taken && not (act k.call s).drop) m 0) (same t)
      go (refused m) t = refl

  tells : (n : ℕ) → (first (rules k.call s) ≡ taken → wire_rfu k.call s ≡ n) → Tells n (pressed k a)
  tells n same = go (ltb (length k.out) message_size) refl
    where
      go : (b : Bool) → ltb (length k.out) message_size ≡ b → Tells n (pressed k a)
      go true e = short n (ltb-true _ _ e)
      go false e = told n same (ltb-false _ _ e)

-- ---- a call that is taken finds its packet in the first slot of the wire

module _ (a : Octets) (g : Good a) where
  abbrev r : Record
  r = decode_of a

  sound : Sound a r
  sound = sound_area a g.long g.judged

  first_slot_rfu : (c : Call) → first (rules c (view_of a)) ≡ taken → wire_rfu c (view_of a) ≡ tellable c a
  first_slot_rfu (fresh m) t = refl
  first_slot_rfu power t = refl
  first_slot_rfu (command gid oid m) t = refl
  first_slot_rfu (send c m) t = refl
  first_slot_rfu (push c) t = refl
  first_slot_rfu down t =
      let d = downing.down_facts a r sound (ap first (sym (downing.down_tests_law a r sound.fit.down.head)) ∙ t) in
      ap (λ (x : State). first_rfu way.Down x.down) ((moves a r sound).took_down_law d.some) ∙ downing.packet_rfu a r
  first_slot_rfu (consume c) t = refl
  first_slot_rfu credit t = refl
  first_slot_rfu (air m) t = refl
  first_slot_rfu reply t = refl
  first_slot_rfu up t =
      let p = upping.up_facts r sound.fit sound.shape (ap first (sym (upping.up_tests_law a r)) ∙ t) in
      ap (λ (x : State). first_rfu way.Up x.up) ((moves a r sound).took_up p.some) ∙ upping.packet_rfu a r
  first_slot_rfu (report c) t = refl

-- ---- on any area

-- a refusal tells none
refused_tells : (n m : ℕ) (a out : Octets) → small m ≡ true → Tells n (outcome m a out)
refused_tells n m a out s = refusal_rfu m s ∙ (λ i. pick (is_taken (sym (refusal_answer m s) i) && not (dropped_in m)) n 0)

-- the number in a word's answer
answer_small : (w n : ℕ) → answer_in w ≡ refused n → small n ≡ true
unfolding answer_in
answer_small w n e = go (eqb (w % 256) 0) refl e
  where
    go : (b : Bool) → eqb (w % 256) 0 ≡ b → pick b taken (refused (w % 256)) ≡ refused n → small n ≡ true
    go true z h = absurd (taken_refused h)
    go false z h =
        let q : w % 256 ≡ n = ap number_of h in
        let some : w % 256 ≡ 0 → ⊥ = eqb-false (w % 256) 0 z in
        subst (λ (x : ℕ). small x ≡ true) q (rw (lt-ltb 0 (w % 256) (omega (arith, some)), lt-ltb (w % 256) 256 (omega arith)))

-- fresh, which takes any area, tells none
fresh_tells : (m a out : Octets) → Tells 0 (fresh_call a out m)
unfolding fresh_call
fresh_tells m a out =
    decided_by (Tells 0) (room_rules (length a) (length out) ++ rules (fresh m) (view_of a)) (freshed m a out) a out refl
    (λ _. word_rfu false false 0 0 0 (omega arith) (omega arith) (omega arith) ∙ sym (pick_same (is_taken (answer_in quiet_word) && not (dropped_in quiet_word)) 0)) (λ n s. refused_tells 0 n a out s)

-- a call that is taken: fresh, or one on an area with a good record
taken_tells : (c : Call) (a out : Octets) → Octal (slice c) → Octal a → answer_in (perform c a out).word ≡ taken → Tells (tellable c a) (perform c a out)
taken_tells c a out v o e = go (is_fresh c) refl
  where
    by_fresh : (c : Call) → is_fresh c ≡ true → Tells (tellable c a) (perform c a out)
    by_fresh (fresh m) f = fresh_tells m a out
    by_fresh power f = absurd (false≢true f)
    by_fresh (command gid oid m) f = absurd (false≢true f)
    by_fresh (send c m) f = absurd (false≢true f)
    by_fresh (push c) f = absurd (false≢true f)
    by_fresh down f = absurd (false≢true f)
    by_fresh (consume c) f = absurd (false≢true f)
    by_fresh credit f = absurd (false≢true f)
    by_fresh (air m) f = absurd (false≢true f)
    by_fresh reply f = absurd (false≢true f)
    by_fresh up f = absurd (false≢true f)
    by_fresh (report c) f = absurd (false≢true f)

    go : (b : Bool) → is_fresh c ≡ b → Tells (tellable c a) (perform c a out)
    go true f = by_fresh c f
    go false f =
        let entry = entered_if_taken c a out f e in
        let g : Good a = record { long = entry.0; judged = entry.1; octal = o } in
        tells (record { call = c; out = out }) v a g (tellable c a) (first_slot_rfu a g c)

pub rfu_exact : RfuExact
rfu_exact k a v o = go (answer_in (pressed k a).word) refl
  where
    go : (r : Result) → answer_in (pressed k a).word ≡ r → Tells (tellable k.call a) (pressed k a)
    go taken e = taken_tells k.call a k.out v o e
    go (refused n) e =
        subst (Tells (tellable k.call a)) (sym (refusals_keep k a n e))
        (refused_tells (tellable k.call a) n a k.out (answer_small (pressed k a).word n e))

-- ---- every run

-- on a wire where no packet has any the first has none
first_clear : (w : Way) (ps : List Octets) → Each (λ p. rfu_by w (read_of p) ≡ 0) ps → first_rfu w ps ≡ 0
first_clear w [] h = refl
first_clear w (p ∷ ps) h = h.0

-- of packets that the two ends wrote
clear : (c : Call) (s : State) → Wires s → wire_rfu c s ≡ 0
clear (fresh m) s w = refl
clear power s w = refl
clear (command gid oid m) s w = refl
clear (send c m) s w = refl
clear (push c) s w = refl
clear down s w = first_clear way.Down s.down w.down_rfu
clear (consume c) s w = refl
clear credit s w = refl
clear (air m) s w = refl
clear reply s w = refl
clear up s w = first_clear way.Up s.up w.up_rfu
clear (report c) s w = refl

pub always_clear : AlwaysClear
always_clear area out m v e keys w k u =
    let stands = run_stands area out m v e keys w in
    let formed = wires _ (every_run SmallShaped shaped_stays shaped_start area out m v e keys w).1 in
    let word = (pressed k (area_after keys (fresh_call area out m).area)).word in
    tells k u _ stands.good 0 (λ _. clear k.call _ formed) ∙ pick_same (is_taken (answer_in word) && not (dropped_in word)) 0
