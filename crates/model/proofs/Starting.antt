-- Run to rest, to the move: where nothing that is under way goes on, a segment in hand starts, and brings the end nearer by exactly one.
-- Assumes nothing.
use Prim.Native.Nat.{ℕ, suc, ◌+◌, ◌*◌}
use native.Mathlib.Omega.{arith}
use mathlib.Core.Path.{◌≡◌, refl, sym, ap, ◌∙◌}
use mathlib.Core.Bool.{Bool, true, false}
use mathlib.Core.List.{List, [], ◌∷◌, ◌++◌}
use lib.ListN.{length, length-append}
use borrow.Author.Tests.{eq-eqb, not-false}
use Rattle.octets.specs.Octets.{Octets, pick}
use Rattle.packets.specs.Segments.{Segment, segment_packet}
use Rattle.packets.specs.Headers.{data_header}
use Rattle.state.specs.Conn.{flows}
use Rattle.state.proofs.Credits.{carriable_few}
use Rattle.wires.specs.Meaning.{Meaning, datum, meaning}
use Rattle.model.specs.Connection.{ControllerEnd, Connection, with_host, with_controller, pushed, owed_on, carried_on, paid, spoken}
use Rattle.model.specs.State.{State}
use Rattle.model.specs.Effects.{push, reply}
use Rattle.model.specs.Refusals.{is_nil, no_conn}
use Rattle.model.specs.calls.Push.{pushing}
use Rattle.model.specs.calls.Reply.{replying}
use Rattle.model.specs.Bench.{rules, act}
use Rattle.model.specs.Observer.{Ledger}
use Rattle.model.specs.Press.{passing, possible, in_speech, debt}
use Rattle.model.specs.invariant.Bench.{Fine}
use Rattle.model.proofs.Cases.{clash, each_append}
use Rattle.model.proofs.Needs.{need}
use Rattle.model.proofs.Fine.{at_keeps, conn_small}
use Rattle.model.proofs.Meanings.{meaning_data}
use Rattle.model.proofs.Sums.{sum_of, sum_same}
use Rattle.model.proofs.Falling.{reply_debt, debt_le}
use Rattle.model.proofs.Press.{NoneOf, possible_taken}
use Rattle.model.proofs.Silent.{up_empty, down_empty, store_empty, all_paid, open_here}
use Rattle.model.proofs.Costs.{weighed, weighed_same, weighed_falls, weighed_none, hand_cost, down_cost, store_cost, pushed_cost, hands, stored_on, stores, cost_in, down_costs, left, Coming, One, Nearer}

-- ---- where nothing that is under way goes on, a segment in hand starts

module _ (s : State) (aim : ℕ) (l : ℕ → Ledger) (fine : Fine s aim l) (none : NoneOf passing s) where
  none_stored : (d : ℕ) → stores s.conns d ≡ 0
  none_stored d = go (s.conns d).controller.opened refl
    where
      go : (y : Bool) → (s.conns d).controller.opened ≡ y → pick y (length (s.conns d).controller.store) 0 ≡ 0
      go true z = ap length (store_empty s aim l fine none d z)
      go false z = refl

  none_owing : debt s ≡ 0
  none_owing = rw (all_paid s aim l fine none) refl

  none_up : s.up ≡ []
  none_up = up_empty s aim l fine none

  none_down : s.down ≡ []
  none_down = down_empty s aim l fine none

  none_in_stores : sum_of (stores s.conns) ≡ 0
  none_in_stores = sum_same (λ d. 0) (stores s.conns) none_stored

  -- so one thing at most is
  pub none_one : One (flows (s.conns 0).controller.grant) s
  none_one =
      record {
        few = omega (arith, ap length none_down, ap length none_up, none_owing, none_in_stores);
        going = rw none_down tt;
        coming_up_law = rw none_up tt;
        flow = refl;
      }

  -- what is left is what is in hand
  pub in_hand_law : (b : Bool) → left b s ≡ weighed (hand_cost b) (hands s.conns) + 2 * in_speech s
  in_hand_law b =
      omega (arith, ap (down_costs b) none_down, ap length none_up, none_owing, weighed_none (store_cost b) (stores s.conns) none_stored)

  module _ (b : Bool) (o : One b s) (c : ℕ) (t : possible (push c) s ≡ true) (x : Segment) (h : List Segment) (e : (s.conns c).host.hand ≡ x ∷ h) where
    five : no_conn c ≡ false
    five = need 3 (rules (push c) s) (possible_taken (push c) s t)

    open_there : (s.conns c).controller.opened ≡ true
    open_there = open_here s aim l fine none c (not-false _ (need 6 (rules (push c) s) (possible_taken (push c) s t)))

    abbrev gone : Connection → Connection
    gone k = with_host (pushed h k.host) k

    abbrev put : Octets
    put = segment_packet (data_header c 0) x

    abbrev s' : State
    s' = (pushing c (x ∷ h) s).next

    means : meaning put ≡ datum c 0 x
    means = meaning_data c 0 x (conn_small c five) (omega arith)

    same : (d : ℕ) → (s'.conns d).controller ≡ (s.conns d).controller
    same = at_keeps c gone s.conns (λ k. k.controller) (λ k. refl)

    same_stores : (d : ℕ) → stores s'.conns d ≡ stores s.conns d
    same_stores d = ap stored_on (same d)

    debt_none : debt s' ≡ 0
    debt_none = omega (arith, none_owing, debt_le s s' (λ d. omega (arith, ap owed_on (same d))))

    one_down : s'.down ≡ put ∷ []
    one_down = ap (λ (w : List Octets). w ++ (put ∷ [])) none_down

    cost : down_costs b s'.down ≡ down_cost b c
    cost = ap (down_costs b) one_down ∙ ap (λ (q : Meaning). cost_in b q + 0) means ∙ omega arith

    here : hands s.conns c ≡ suc (hands s'.conns c)
    here = ap length e ∙ ap suc (sym (rw (eq-eqb c c refl) refl))

    fewer : weighed (hand_cost b) (hands s.conns) ≡ hand_cost b c + weighed (hand_cost b) (hands s'.conns)
    fewer = weighed_falls (hand_cost b) (hands s.conns) (hands s'.conns) c five (λ d z. rw z refl) here

    pushed_nearer : Nearer b s s'
    pushed_nearer = (
      omega (
        arith,
        in_hand_law b,
        fewer,
        pushed_cost b c,
        cost,
        debt_none,
        ap length none_up,
        weighed_none (store_cost b) (stores s.conns) none_stored,
        weighed_same (store_cost b) (stores s.conns) (stores s'.conns) same_stores,
        ap (λ (k : ControllerEnd). length k.speech) (same 0),
      ),
      record {
        few = omega (arith, ap length one_down, ap length none_up, none_in_stores, debt_none, sum_same (stores s.conns) (stores s'.conns) same_stores);
        going = rw (one_down, means) ((five, ap (λ (k : ControllerEnd). k.opened) (same c) ∙ open_there), tt);
        coming_up_law = o.coming_up_law;
        flow = ap (λ (k : ControllerEnd). flows k.grant) (same 0) ∙ o.flow;
      },
    )

  pub push_nearer : (b : Bool) → One b s → (c : ℕ) → possible (push c) s ≡ true → Nearer b s (act (push c) s).next
  push_nearer b o c t = go (s.conns c).host.hand refl
    where
      go : (h : List Segment) → (s.conns c).host.hand ≡ h → Nearer b s (pushing c h s).next
      go [] e = clash (ap is_nil e) (need 8 (rules (push c) s) (possible_taken (push c) s t))
      go (x ∷ h) e = pushed_nearer b o c t x h e

  pub reply_nearer : (b : Bool) → One b s → possible reply s ≡ true → Nearer b s (act reply s).next
  reply_nearer b o t = go (s.conns 0).controller.speech refl
    where
      go : (ss : List Segment) → (s.conns 0).controller.speech ≡ ss → Nearer b s (replying ss s).next
      go [] e = clash (ap is_nil e) (need 8 (rules reply s) (possible_taken reply s t))
      go (x ∷ ss) e = (
        omega (
          arith,
          ap length e,
          longer,
          none_owing,
          debt_after,
          weighed_same (hand_cost b) (hands s.conns) (hands next.conns) same_hands,
          weighed_same (store_cost b) (stores s.conns) (stores next.conns) same_stores,
        ),
        record {
          few = omega (arith, ap length none_up, ap length none_down, none_in_stores, debt_after, longer, sum_same (stores s.conns) (stores next.conns) same_stores);
          going = rw none_down tt;
          coming_up_law = each_append (λ p. Coming (meaning p)) s.up (packet ∷ []) o.coming_up_law (rw packet_means (tt, tt));
          flow = o.flow;
        },
      )
        where
          replied : Connection → Connection
          replied k = with_controller (paid (spoken ss k.controller)) k

          packet : Octets
          packet = segment_packet (data_header 0 (carried_on (s.conns 0).controller)) x

          next : State
          next = (replying (x ∷ ss) s).next

          packet_means : meaning packet ≡ datum 0 (carried_on (s.conns 0).controller) x
          packet_means = meaning_data 0 (carried_on (s.conns 0).controller) x (omega arith) (omega (arith, carriable_few (owed_on (s.conns 0).controller)))

          longer : length next.up ≡ suc (length s.up)
          longer = omega (arith, length-append s.up (packet ∷ []))

          debt_after : debt next ≡ 0
          debt_after = omega (arith, none_owing, reply_debt s x ss)

          same_hands : (d : ℕ) → hands next.conns d ≡ hands s.conns d
          same_hands = at_keeps 0 replied s.conns (λ k. length k.host.hand) (λ k. refl)

          same_stores : (d : ℕ) → stores next.conns d ≡ stores s.conns d
          same_stores = at_keeps 0 replied s.conns (λ k. stored_on k.controller) (λ k. refl)
