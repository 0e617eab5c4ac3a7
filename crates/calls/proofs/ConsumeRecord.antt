-- consume: the tests of its rules on numbers, what is known where none applies, what the code's parts come to, and the record after it.
-- Assumes nothing.
use Prim.Native.Nat.{ℕ, ◌≤◌, ◌<◌}
use native.Mathlib.Omega.{arith}
use mathlib.Core.Path.{◌≡◌, ◌∙◌}
use mathlib.Core.Bool.{Bool, true, false, not, ◌&&◌, false≢true}
use mathlib.Core.List.{List, [], ◌∷◌}
use lib.ListN.{length, length-set}
use lib.Dec.{eqb, leb}
use borrow.Author.Tests.{leb-false, eqb-false}
use Rattle.octets.specs.Octets.{Octets, pick}
use Rattle.calls.specs.Kinds.{Progress, Joined, Counts, Record}
use Rattle.state.specs.Conn.{place_of, counts_of, flows}
use Rattle.state.proofs.Chains.{on}
use Rattle.area.specs.Map.{wire_slots, store_slots, message_size, places, store_at}
use Rattle.record.specs.Claims.{saved}
use Rattle.record.specs.Fit.{Shape, Fit, FitRing, FitCounts}
use Rattle.record.specs.Small.{SmallCounts, Small}
use Rattle.record.proofs.Conns.{conns_set}
use Rattle.views.specs.View.{view}
use Rattle.views.proofs.Tests.{packets_nil, up_full_one}
use Rattle.model.specs.Effects.{taken}
use Rattle.model.specs.Refusals.{Rule, rule, first, no_conn}
use Rattle.model.specs.calls.Consume.{is_loop, consume_rules}
use Rattle.model.proofs.Order.{need}
use Rattle.calls.specs.Word.{word_of}
use Rattle.calls.specs.Outcome.{outcome}
use Rattle.calls.specs.calls.Consume.{controller_side, consumed_side, echoed_side, consumed_conns, consumed_record, echoed_slot, consumed_out, consumed_as, Consumable}

-- ---- the rules on numbers

abbrev pub consume_tests : Record → ℕ → List Rule
consume_tests r c =
    rule 3 (leb places (place_of c))
    ∷ rule 4 (is_loop c && leb wire_slots r.up.count)
    ∷ rule 6 (not (controller_side r c).opened)
    ∷ rule 8 (eqb (controller_side r c).store.count 0)
    ∷ []

pub consume_tests_law : (a : Octets) (r : Record) (c : ℕ) → consume_rules c (view a r) ≡ consume_tests r c
consume_tests_law a r c i =
    rule 3 (no_conn c)
    ∷ rule 4 (is_loop c && up_full_one a r i)
    ∷ rule 6 (not (controller_side r c).opened)
    ∷ rule 8 (packets_nil (store_at (place_of c)) store_slots a (controller_side r c).store i)
    ∷ []

-- ---- what is known where none applies

-- of two tests that do not both hold
and_other : (a b : Bool) → (a && b) ≡ false → a ≡ true → b ≡ false
and_other true b e t = e
and_other false b e t = absurd (false≢true t)

pub consume_facts : (r : Record) (c : ℕ) → Fit r → first (consume_tests r c) ≡ taken → Consumable r c
consume_facts r c f t =
    let place : place_of c < places = leb-false places (place_of c) (need 3 (consume_tests r c) t) in
    let k = f.conns (place_of c) place in
    let some = eqb-false (controller_side r c).store.count 0 (need 8 (consume_tests r c) t) in
    record {
      place = place;
      free = λ l. leb-false wire_slots r.up.count (and_other (is_loop c) (leb wire_slots r.up.count) (need 4 (consume_tests r c) t) l);
      ring = f.up;
      some = omega (arith, some);
      store = k.store;
      run = k.controller_run_law;
    }

-- ---- what the code's parts come to; size: the length of the message that was handed out, 0 for none

pub consumed_parts : (r : Record) (c : ℕ) (j : Joined) (len size w : ℕ) (b x out t : Octets) → w ≡ word_of j.dropped j.done size 0 (pick (is_loop c) 1 0)
    → size ≡ pick j.done len 0 → x ≡ saved (echoed_slot r c b) (consumed_record r c j.next) → t ≡ consumed_out c j len b out
    → outcome w x t ≡ consumed_as r c j len b out
consumed_parts r c j len size w b x out t word short area buffer i =
    outcome ((word ∙ (λ k. word_of j.dropped j.done (short k) 0 (pick (is_loop c) 1 0))) i) (area i) (buffer i)

-- ---- the record after it is one that row 1 lets pass, of octets; next: how far the run is

module _ (r : Record) (c : ℕ) (p : Consumable r c) (shape : Shape r) (next : Progress) where
  abbrev pub new : Counts
  new = record { host = (counts_of r.ends.conns c).host; controller = echoed_side (is_loop c) (consumed_side next (controller_side r c)) }

  pub there : place_of c < length r.ends.conns
  there = omega (arith, p.place, shape.conns)

  -- with the up wire as it was
  pub between_fit : next.len ≤ message_size → Fit r → Fit (consumed_conns r c next)
  between_fit short f =
      let k = f.conns (place_of c) p.place in
      record {
        down = f.down;
        up = f.up;
        own = f.own;
        conns =
            conns_set FitCounts r.ends.conns (place_of c) new there
            (record {
              payload = k.payload;
              hand = k.hand;
              host_run_law = k.host_run_law;
              store = record { head = omega arith; count = omega (arith, k.store.count) };
              controller_run_law = short;
            })
            f.conns;
      }

  pub consume_fit : next.len ≤ message_size → Fit r → Fit (consumed_record r c next)
  consume_fit short f =
      let g = between_fit short f in
      record {
        down = g.down;
        up = on (FitRing wire_slots) (is_loop c) (λ l. record { head = f.up.head; count = omega (arith, p.free l) }) (λ _. f.up);
        own = g.own;
        conns = g.conns;
      }

  pub consume_small : Small r → Small (consumed_record r c next)
  consume_small s =
      let k = s.conns (place_of c) p.place in
      record {
        own = s.own;
        conns =
            conns_set SmallCounts r.ends.conns (place_of c) new there
            (record {
              payload = k.payload;
              host_grant_law = k.host_grant_law;
              held = k.held;
              grant = k.grant;
              owed =
                  let w = (consumed_side next (controller_side r c)).owed in
                  let one : w ≤ 255 = on (λ (n : ℕ). n ≤ 255) (flows (controller_side r c).grant) (λ _. omega arith) (λ _. k.owed) in
                  on (λ (n : ℕ). n ≤ 255) (is_loop c) (λ _. omega (arith, one)) (λ _. one);
            })
            s.conns;
      }

  pub consume_shape : Shape (consumed_record r c next)
  consume_shape = record { pairs = shape.pairs; conns = length-set r.ends.conns (place_of c) new ∙ shape.conns }
