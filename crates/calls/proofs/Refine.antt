-- How a call's refinement is shown: refusals once for all calls, packets put on a wire, and an area in which the record was written last.
-- Assumes nothing.
use Prim.Native.Nat.{ℕ, zero, suc, ◌+◌, ◌%◌, ◌/◌, ◌≤◌, ◌<◌}
use native.Mathlib.Nat.{add-zero, add-suc, suc-add, zero-add}
use native.Mathlib.Omega.{arith}
use mathlib.Core.Path.{◌≡◌, refl, sym, ap, ◌∙◌, subst}
use mathlib.Core.Bool.{Bool, true, false}
use mathlib.Core.List.{List, [], ◌∷◌, ◌++◌}
use lib.ListN.{length, drop}
use lib.Seq.{drop_at}
use lib.Dec.{eqb, ltb}
use borrow.Author.Tests.{ltb-true, ne_eqb, eqb-true}
use Rattle.octets.specs.Octets.{Octets, pick, cut}
use Rattle.octets.specs.Octal.{Octal}
use Rattle.calls.specs.Kinds.{Ring, Record}
use Rattle.state.proofs.Chains.{and_left, and_right}
use Rattle.area.specs.Map.{area_size, down_at, up_at, wire_slots, message_size}
use Rattle.area.specs.Ring.{slot_packet, tab, packets_from, packets_in}
use Rattle.area.proofs.Rings.{tab_ext, length_tab}
use Rattle.record.specs.Reading.{decode_of}
use Rattle.record.specs.Claims.{saved}
use Rattle.record.specs.Fit.{Shape, Fit}
use Rattle.record.specs.Small.{Small}
use Rattle.config.specs.Stored.{parameters_ok}
use Rattle.record.proofs.Fits.{judged_parameters}
use Rattle.record.proofs.Configured.{length_config}
use Rattle.record.proofs.Saved.{saved_long, saved_judged, saved_octal}
use Rattle.views.specs.View.{view, view_of}
use Rattle.views.proofs.Credits.{view_granted}
use Rattle.model.specs.Connection.{Connection}
use Rattle.model.specs.State.{at}
use Rattle.model.specs.Effects.{Call, Result, taken, refused}
use Rattle.model.specs.Refusals.{first}
use Rattle.model.specs.Bench.{rules, judged, step}
use Rattle.model.specs.Grants.{WithinGrants}
use Rattle.model.specs.invariant.Bench.{ConfigWithin}
use Rattle.model.proofs.Parameters.{step_within}
use Rattle.calls.specs.Word.{drop_bit, handed_bit, answer_in, dropped_in, handed_in, length_in, down_in, up_in, rfu_in}
use Rattle.calls.specs.Outcome.{Outcome, outcome, decided, called}
use Rattle.calls.specs.Seen.{Puts, no_puts, restarts, puts_after}
use Rattle.calls.specs.Refines.{Good, Follows, Along, RefinesTo, Refines}
use Rattle.calls.proofs.Rules.{small, numbered, refused_small}
use Rattle.calls.proofs.Called.{enters, called_own}

-- ---- the word of a refusal

module _ (n : ℕ) (s : small n ≡ true) where
  above : 0 < n
  above = ltb-true 0 n (and_left (ltb 0 n) (ltb n 256) s)

  below : n < 256
  below = ltb-true n 256 (and_right (ltb 0 n) (ltb n 256) s)

  pub refusal_answer : answer_in n ≡ refused n
  unfolding answer_in
  refusal_answer =
      let e : n % 256 ≡ n = omega (arith, below) in
      let z : eqb n 0 ≡ false = ne_eqb n 0 (λ q. omega (arith, above)) in
      rw (e, z)

  refusal_dropped : dropped_in n ≡ false
  unfolding dropped_in
  refusal_dropped = let e : n / drop_bit % 2 ≡ 0 = omega (arith, below) in rw e

  pub refusal_handed : handed_in n ≡ false
  unfolding handed_in
  refusal_handed = let e : n / handed_bit % 2 ≡ 0 = omega (arith, below) in rw e

  refusal_down : down_in n ≡ 0
  unfolding down_in
  refusal_down = omega (arith, below)

  refusal_up : up_in n ≡ 0
  unfolding up_in
  refusal_up = omega (arith, below)

  pub refusal_rfu : rfu_in n ≡ 0
  unfolding rfu_in
  refusal_rfu = omega (arith, below)

-- ---- an area in which the record n was written last

pub saved_good : (x : Octets) (n : Record) → area_size ≤ length x → Fit n → Shape n → Octal x → Small n
    → WithinGrants (view x n) → parameters_ok (view x n).config ≡ true → Good (saved x n)
saved_good x n long fit shape octal small within values =
    record {
      long = saved_long x n long;
      judged = saved_judged x n long fit shape (view_granted x n within) values;
      octal = saved_octal x n octal small;
    }

-- ---- an area whose record is good

-- its configuration has values that a set leaves, and so has the model's next state
pub good_config : (a : Octets) → Good a → ConfigWithin (view_of a).config
good_config a g = record { long = length_config a g.long; values = judged_parameters a g.judged }

-- so a call that is the model's step leaves a good record, where credits are within the grants
pub refined_good : (c : Call) (p : Puts) (a : Octets) (o : Outcome) → Good a → Refines c p a o → WithinGrants (step c (view_of a)).effect.next → Good o.area
refined_good c p a o g r within = r.good within (step_within c (view_of a) (good_config a g)).values

-- ---- packets put on a wire

-- of an area that no calls made, any number of packets put that goes with the rings will do
abbrev pub ring_puts : Octets → Puts
ring_puts a = record { down = (decode_of a).down.head + (decode_of a).down.count; up = (decode_of a).up.head + (decode_of a).up.count }

pub ring_along : (a : Octets) → Along (ring_puts a) a
ring_along a = record { down = refl; up = refl }

tab_append : {A : Type 0} (f : ℕ → A) (p m n : ℕ) → tab f p (m + n) ≡ tab f p m ++ tab f (p + m) n
unfolding tab
tab_append f p zero n = rw (zero-add n, add-zero p)
tab_append f p (suc m) n = rw (suc-add m n) (ap (λ t. f p ∷ t) (tab_append f (suc p) m n ∙ rw (suc-add p m, add-suc p m)))

-- the last n packets of a wire, read in the slots whose numbers follow those put before: no slot is looked at in a call's own proof
pub puts_seen : (base : ℕ) (b : Octets) (k j : Ring) (p n : ℕ) (before ps : List Octets) → Follows p k → j.head ≡ k.head → j.count ≡ k.count + n
    → length before ≡ k.count → packets_in base wire_slots b j ≡ before ++ ps → packets_from base wire_slots b p n ≡ ps
unfolding packets_from
puts_seen base b k j p n before ps follows h c l e =
    let f : ℕ → Octets = λ i. slot_packet base b (i % wire_slots) in
    let whole : tab f k.head k.count ++ tab f (k.head + k.count) n ≡ before ++ ps = sym (tab_append f k.head k.count n) ∙ sym (λ i. tab f (h i) (c i)) ∙ e in
    tab_ext f f p (k.head + k.count) n (λ i _. ap (slot_packet base b) (omega (arith, follows)))
    ∙ sym (drop_at (tab f k.head k.count) (tab f (k.head + k.count) n) k.count (length_tab f k.head k.count))
    ∙ ap (drop k.count) whole
    ∙ drop_at before ps k.count l

-- ---- one connection's numbers

-- a connection changed to what it becomes
pub at_const : (c : ℕ) (f : Connection → Connection) (g : ℕ → Connection) → at c (λ _. f (g c)) g ≡ at c f g
at_const c f g i d = go (eqb c d) refl i
  where
    go : (b : Bool) → eqb c d ≡ b → pick b (f (g c)) (g d) ≡ pick b (f (g d)) (g d)
    go true e = ap (λ (x : ℕ). f (g x)) (eqb-true c d e)
    go false e = refl

-- a connection changed twice
pub at_twice : (c : ℕ) (f h : Connection → Connection) (g : ℕ → Connection) → at c h (at c f g) ≡ at c (λ k. h (f k)) g
at_twice c f h g i d = go (eqb c d) i
  where
    go : (b : Bool) → pick b (h (pick b (f (g d)) (g d))) (pick b (f (g d)) (g d)) ≡ pick b (h (f (g d))) (g d)
    go true = refl
    go false = refl

-- ---- a call

module _ (c : Call) (o : Outcome) (p : Puts) (a out : Octets) (g : Good a) (room : message_size ≤ length out) (al : Along p a) where
  refusal_refines : (n : ℕ) → small n ≡ true → RefinesTo c p (outcome n a out) (judged (refused n) c (view_of a))
  unfolding packets_from tab
  refusal_refines n s =
      let ans = refusal_answer n s in
      let dn = refusal_down n s in
      let un = refusal_up n s in
      let still : puts_after c p n ≡ record { down = p.down + 0; up = p.up + 0 } =
      (λ i. pick (restarts c (ans i)) no_puts (record { down = p.down + dn i; up = p.up + un i }))
      in
      record {
        good = λ _ _. g;
        event =
            λ i.
            record {
              call = c;
              answer = ans i;
              dropped = refusal_dropped n s i;
              rfu = refusal_rfu n s i;
              to_down = packets_from down_at wire_slots a p.down (dn i);
              to_up = packets_from up_at wire_slots a p.up (un i);
              message = pick (refusal_handed n s i) (cut 0 (length_in n) out ∷ []) [];
            };
        next = refl;
        along = subst (λ (q : Puts). Along q a) (sym still) (record { down = omega (arith, al.down); up = omega (arith, al.up) });
        there = record { down = omega (arith, dn); up = omega (arith, un) };
      }

  -- what the model's own rules decide, where a call that is taken does what the model does
  pub decided_refines : numbered (rules c (view_of a)) ≡ true
      → (first (rules c (view_of a)) ≡ taken → RefinesTo c p o (judged taken c (view_of a)))
      → Refines c p a (decided (first (rules c (view_of a))) o a out)
  unfolding step
  decided_refines w done = go (first (rules c (view_of a))) refl
    where
      go : (x : Result) → first (rules c (view_of a)) ≡ x → RefinesTo c p (decided x o a out) (judged x c (view_of a))
      go taken e = done e
      go (refused n) e = refusal_refines n (refused_small (rules c (view_of a)) n w e)

  -- so for a call that was entered
  pub called_refines : numbered (rules c (view_of a)) ≡ true
      → (first (rules c (view_of a)) ≡ taken → RefinesTo c p o (judged taken c (view_of a)))
      → Refines c p a (called (rules c (view_of a)) o a out)
  called_refines w done =
      subst (Refines c p a)
      (called_own (rules c (view_of a)) o a out (first (rules c (view_of a))) (enters a (length out) g.long g.judged room) refl)
      (decided_refines w done)
