-- Run to rest, to the move: where one thing is under way at most, what takes it on brings the end nearer by exactly one.
-- Assumes nothing.
use Prim.Native.Nat.{ℕ, suc, ◌+◌, ◌≤◌}
use native.Mathlib.Omega.{arith}
use mathlib.Core.Path.{◌≡◌, refl, sym, ap, ◌∙◌, subst}
use mathlib.Core.Bool.{Bool, true, false}
use mathlib.Core.List.{List, [], ◌∷◌, map}
use lib.Dec.{eqb}
use lib.ListN.{length, length-append}
use borrow.Author.Tests.{eq-eqb, ne_eqb, not-false}
use Rattle.std.specs.Prelude.{Option}
use Rattle.octets.specs.Octets.{Octets, pick}
use Rattle.packets.specs.Segments.{Segment}
use Rattle.packets.specs.Packet.{carrying}
use Rattle.wires.specs.Meaning.{Meaning, datum, control, junk, meaning}
use Rattle.wires.proofs.Slots.{meaning_carrying}
use Rattle.state.specs.Conn.{flows}
use Rattle.state.proofs.Chains.{on}
use Rattle.messages.specs.Layout.{credits_ntf}
use Rattle.dh.specs.Contents.{notice_of, written}
use Rattle.dh.specs.Host.{heard_written, hear_of, credits_for}
use Rattle.ends.specs.Changes.{Change, change_heard}
use Rattle.model.specs.Kinds.{Asked, Heard}
use Rattle.model.specs.Connection.{HostEnd, ControllerEnd, Connection, with_host, with_controller, heard_data, credited, stored, owed_on, carried_on}
use Rattle.model.specs.State.{ControlRun, State, at, with_conns, with_down, with_up, with_hearing}
use Rattle.model.specs.Effects.{Effect, down, consume, credit, up}
use Rattle.model.specs.Refusals.{is_nil, no_conn, is_held}
use Rattle.model.specs.Changes.{at_host}
use Rattle.model.specs.Runs.{run_after, whole_by, flag_by}
use Rattle.model.specs.calls.Down.{arriving, taking_down}
use Rattle.model.specs.calls.Consume.{is_loop, echo, echoed, segment_in, joined_end, consuming}
use Rattle.model.specs.calls.Credit.{owed_by, all_zero}
use Rattle.model.specs.calls.Up.{hearing, coming, taking_up}
use Rattle.model.specs.Bench.{rules, act}
use Rattle.model.specs.Observer.{Ledger}
use Rattle.model.specs.Reachable.{Each}
use Rattle.model.specs.Press.{possible, debt}
use Rattle.model.specs.Exact.{loopbacks}
use Rattle.model.specs.invariant.Bench.{Fine, StoredIn}
use Rattle.model.proofs.Cases.{clash, no_length, each, each_append}
use Rattle.model.proofs.Needs.{need}
use Rattle.model.proofs.Fine.{at_keeps}
use Rattle.model.proofs.Meanings.{meaning_notice}
use Rattle.model.proofs.Sums.{sum_of, sum_same, sum_at, some}
use Rattle.model.proofs.Falling.{looped_owed, credit_paid, debt_le}
use Rattle.model.proofs.Press.{possible_taken}
use Rattle.model.proofs.Silent.{is_zero, zero_of}
use Rattle.model.proofs.Costs.{weighed_same, weighed_falls, hand_cost, down_cost, store_cost, taken_cost, goes_up, leaves_owed, consumed_cost, hands, stored_on, stores, cost_in, down_costs, left, Going, Coming, One, Nearer}

-- ---- up

-- a call leaves what is in hand, the controller and the wires
record Still (s s' : State) : Type 0 where
  hand : (d : ℕ) → (s'.conns d).host.hand ≡ (s.conns d).host.hand
  controller : (d : ℕ) → (s'.conns d).controller ≡ (s.conns d).controller
  same_down : s'.down ≡ s.down
  same_up : s'.up ≡ s.up

module _ {s s' : State} (q : Still s s') where
  stores_at : (d : ℕ) → stores s'.conns d ≡ stores s.conns d
  stores_at d = ap stored_on (q.controller d)

  owed_same : debt s' ≡ debt s
  owed_same =
      let a = debt_le s s' (λ d. omega (arith, ap owed_on (q.controller d))) in
      let z = debt_le s' s (λ d. omega (arith, ap owed_on (q.controller d))) in
      omega arith

  still_left : (b : Bool) → left b s' ≡ left b s
  still_left b =
      omega (
        arith,
        weighed_same (hand_cost b) (hands s.conns) (hands s'.conns) (λ d. ap length (q.hand d)),
        weighed_same (store_cost b) (stores s.conns) (stores s'.conns) stores_at,
        ap (down_costs b) q.same_down,
        ap length q.same_up,
        owed_same,
        ap (λ (k : ControllerEnd). length k.speech) (q.controller 0),
      )

  going_same : (m : Meaning) → Going s.conns m → Going s'.conns m
  going_same (datum c n x) g = (g.0, ap (λ (k : ControllerEnd). k.opened) (q.controller c) ∙ g.1)
  going_same (control mt gid oid x) g = g
  going_same junk g = g

  all_going : (w : List Octets) → Each (λ p. Going s.conns (meaning p)) w → Each (λ p. Going s'.conns (meaning p)) w
  all_going [] g = tt
  all_going (p ∷ w) g = (going_same (meaning p) g.0, all_going w g.1)

  still_one : (b : Bool) → One b s → One b s'
  still_one b o =
      record {
        few =
            omega (arith, o.few, ap length q.same_down, ap length q.same_up, owed_same, sum_same (stores s.conns) (stores s'.conns) stores_at);
        going = rw q.same_down (all_going s.down o.going);
        coming_up_law = rw q.same_up o.coming_up_law;
        flow = ap (λ (k : ControllerEnd). flows k.grant) (q.controller 0) ∙ o.flow;
      }

itself_still : (s : State) → Still s s
itself_still s = record { hand = λ d. refl; controller = λ d. refl; same_down = refl; same_up = refl }

-- a credit notice gives credits, or nothing
notice_hand : (m : Octets) (p : Option Asked) (h : HostEnd) (d : ℕ) → (at_host (change_heard (hear_of p 3 0 6 m) m d) h).hand ≡ h.hand
unfolding hear_of heard_written notice_of
notice_hand m p h d =
    on (λ (x : Heard). (at_host (change_heard x m d) h).hand ≡ h.hand) (written 3 0 6 m)
    (λ _. on (λ (x : Change). (at_host x h).hand ≡ h.hand) (eqb (credits_for m d) 0) (λ _. refl) (λ _. refl))
    (λ _. refl)

hearing_still : (s : State) (r : ControlRun) (ms : List Octets) (b : Bool) → Still s (hearing 3 0 6 ms b (with_hearing r s)).next
hearing_still s r [] b = record { hand = λ d. refl; controller = λ d. refl; same_down = refl; same_up = refl }
hearing_still s r (m ∷ ms) b =
    record { hand = λ d. notice_hand m s.host.pending (s.conns d).host d; controller = λ d. refl; same_down = refl; same_up = refl }

coming_still : (q : Meaning) (s : State) → Coming q → Still s (coming q s).next
coming_still (datum c n x) s g =
    on (λ (e : Effect). Still s e.next) (is_held s c)
    (λ _.
    let f : Connection → Connection = λ k. with_host (heard_data x (credited n k.host)) k in
    record {
      hand = at_keeps c f s.conns (λ k. k.host.hand) (λ k. refl);
      controller = at_keeps c f s.conns (λ k. k.controller) (λ k. refl);
      same_down = refl;
      same_up = refl;
    })
    (λ _. itself_still s)
coming_still (control mt gid oid x) s g =
    rw (g.0, g.1, g.2) (hearing_still s (run_after s.hearing 3 0 6 x) (whole_by s.hearing 3 0 6 x) (flag_by s.hearing 3 0 6 x))
coming_still junk s g = itself_still s

pub up_nearer : (b : Bool) (s : State) → possible up s ≡ true → One b s → Nearer b s (act up s).next
up_nearer b s t o = go s.up refl
  where
    go : (w : List Octets) → s.up ≡ w → Nearer b s (taking_up w s).next
    go [] e = clash (ap is_nil e) (need 8 (rules up s) (possible_taken up s t))
    go (p ∷ w) e =
        let both : Each (λ p. Coming (meaning p)) (p ∷ w) = rw e at o.coming_up_law in
        let q = coming_still (meaning p) (with_up w s) both.0 in
        let rest : One b (with_up w s) = record { few = omega (arith, o.few, ap length e); going = o.going; coming_up_law = both.1; flow = o.flow } in
        (omega (arith, ap length e, still_left q b), still_one q b rest)

-- ---- one connection changes at the controller

module _ (c : ℕ) (f : ControllerEnd → ControllerEnd) (g : ℕ → Connection) where
  abbrev at_end : ℕ → Connection
  at_end = at c (λ k. with_controller (f k.controller) k) g

  hands_still : (d : ℕ) → hands at_end d ≡ hands g d
  hands_still = at_keeps c (λ k. with_controller (f k.controller) k) g (λ k. length k.host.hand) (λ k. refl)

  kept_by : {A : Type 0} (r : ControllerEnd → A) → ((k : ControllerEnd) → r (f k) ≡ r k) → (d : ℕ) → r (at_end d).controller ≡ r (g d).controller
  kept_by r e = at_keeps c (λ k. with_controller (f k.controller) k) g (λ k. r k.controller) (λ k. e k.controller)

  there : stores at_end c ≡ stored_on (f (g c).controller)
  there = rw (eq-eqb c c refl) refl

  beside : (d : ℕ) → eqb c d ≡ false → stores at_end d ≡ stores g d
  beside d e = rw e refl

-- ---- down

-- a packet of an open connection is stored
module _ (b : Bool) (s : State) (o : One b s) (p : Octets) (w : List Octets) (e : s.down ≡ p ∷ w) (c n : ℕ) (x : Segment) (means : meaning p ≡ datum c n x)
    (five : no_conn c ≡ false) (opened : (s.conns c).controller.opened ≡ true) where
  abbrev after_down : State
  after_down = with_conns (at_end c (stored p) s.conns) (with_down w s)

  was_down : (length s.up ≡ 0) × (length w ≡ 0) × (sum_of (stores s.conns) ≡ 0) × (debt s ≡ 0)
  was_down = let u = ap length e in (omega (arith, o.few), omega (arith, o.few), omega (arith, o.few), omega (arith, o.few))

  paid_down : debt after_down ≡ 0
  paid_down = omega (arith, was_down.3, debt_le s after_down (λ d. omega (arith, kept_by c (stored p) s.conns owed_on (λ k. refl) d)))

  -- one more than before
  one_more : stores after_down.conns c ≡ suc (stores s.conns c)
  one_more = there c (stored p) s.conns ∙ rw opened (omega (arith, length-append (s.conns c).controller.store (p ∷ [])))

  cost_down : down_costs b s.down ≡ down_cost b c + down_costs b w
  cost_down = ap (down_costs b) e ∙ ap (λ (q : Meaning). cost_in b q + down_costs b w) means

  stored_nearer : Nearer b s after_down
  stored_nearer = (
    omega (
      arith,
      cost_down,
      taken_cost b c,
      weighed_falls (store_cost b) (stores after_down.conns) (stores s.conns) c five (λ d z. sym (beside c (stored p) s.conns d z)) one_more,
      weighed_same (hand_cost b) (hands s.conns) (hands after_down.conns) (hands_still c (stored p) s.conns),
      kept_by c (stored p) s.conns (λ k. length k.speech) (λ k. refl) 0,
      was_down.3,
      paid_down,
    ),
    record {
      few = omega (arith, was_down.0, was_down.1, was_down.2, paid_down, sum_at (stores s.conns) (stores after_down.conns) c five (beside c (stored p) s.conns), one_more);
      going = rw (no_length w was_down.1) tt;
      coming_up_law = o.coming_up_law;
      flow = kept_by c (stored p) s.conns (λ k. flows k.grant) (λ k. refl) 0 ∙ o.flow;
    },
  )

pub down_nearer : (b : Bool) (s : State) → possible down s ≡ true → One b s → Nearer b s (act down s).next
down_nearer b s t o = go s.down refl
  where
    arrives : (p : Octets) (w : List Octets) → s.down ≡ p ∷ w → (q : Meaning) → meaning p ≡ q → Going s.conns q → Nearer b s (arriving q p (with_down w s)).next
    arrives p w e (datum c n x) m g =
        on (λ (z : Effect). Nearer b s z.next) (s.conns c).controller.opened (λ _. stored_nearer b s o p w e c n x m g.0 g.1) (λ z. clash g.1 z)
    arrives p w e (control mt gid oid x) m g = absurd g
    arrives p w e junk m g = absurd g

    go : (w : List Octets) → s.down ≡ w → Nearer b s (taking_down w s).next
    go [] e = clash (ap is_nil e) (need 8 (rules down s) (possible_taken down s t))
    go (p ∷ w) e = let g : Each (λ p. Going s.conns (meaning p)) (p ∷ w) = rw e at o.going in arrives p w e (meaning p) refl g.0

-- ---- consume

some_first : (k : ℕ → ℕ) (l : List ℕ) → k 0 ≡ 1 → some (map k (0 ∷ l)) ≡ 1
unfolding all_zero
some_first k l e = rw (ne_eqb (k 0) 0 (λ z. omega arith)) refl

all_paid_by : (s : State) → debt s ≡ 0 → all_zero (owed_by s) ≡ true
all_paid_by s e = go (all_zero (owed_by s)) e
  where
    go : (b : Bool) → pick {A = ℕ} b 0 1 ≡ 0 → b ≡ true
    go true e = refl
    go false e = absurd (omega arith)

stored_comes : (c n : ℕ) (p : Octets) (q : Meaning) → meaning p ≡ q → StoredIn c q → Coming (meaning (carrying n p))
stored_comes c n p (datum d m x) means h = rw (meaning_carrying n p d m x means) tt
stored_comes c n p (control mt gid oid x) means h = absurd h
stored_comes c n p junk means h = absurd h

-- on connection 0 the credit is owed, with flow control
plain_owed : (y : Bool) (xs : List Segment) (rest : List Octets) (k : ControllerEnd) → k.opened ≡ true → flows k.grant ≡ y → owed_on k ≡ 0
    → owed_on (echoed false (joined_end xs rest k)) ≡ pick y 1 0
plain_owed true xs rest k o y e = let z : k.owed ≡ 0 = rw (o, y) at e in rw (o, y, z) refl
plain_owed false xs rest k o y e = rw (o, y) refl

module _ (b : Bool) (s : State) (aim : ℕ) (l : ℕ → Ledger) (fine : Fine s aim l) (c : ℕ) (t : possible (consume c) s ≡ true) (o : One b s)
    (p : Octets) (w : List Octets) (e : (s.conns c).controller.store ≡ p ∷ w) where
  five : no_conn c ≡ false
  five = need 3 (rules (consume c) s) (possible_taken (consume c) s t)

  opened : (s.conns c).controller.opened ≡ true
  opened = not-false _ (need 6 (rules (consume c) s) (possible_taken (consume c) s t))

  abbrev eaten : ControllerEnd → ControllerEnd
  eaten k = echoed (is_loop c) (joined_end (segment_in (meaning p)) w k)

  abbrev put : List Octets
  put = echo c (carried_on (joined_end (segment_in (meaning p)) w (s.conns c).controller)) p

  abbrev s' : State
  s' = (consuming c (p ∷ w) s).next

  one_less : stores s.conns c ≡ suc (stores s'.conns c)
  one_less =
      let held : (n : ℕ) → pick (s.conns c).controller.opened n 0 ≡ n = λ n. ap (λ (y : Bool). pick y n 0) opened in
      held (length (s.conns c).controller.store) ∙ ap length e ∙ ap suc (sym (there c eaten s.conns ∙ held (length w)))

  fewer : sum_of (stores s.conns) ≡ suc (sum_of (stores s'.conns))
  fewer = omega (arith, sum_at (stores s.conns) (stores s'.conns) c five (beside c eaten s.conns), one_less)

  was : (length s.down ≡ 0) × (length s.up ≡ 0) × (sum_of (stores s'.conns) ≡ 0) × (debt s ≡ 0)
  was = (omega (arith, fewer, o.few), omega (arith, fewer, o.few), omega (arith, fewer, o.few), omega (arith, fewer, o.few))

  put_length : length put ≡ goes_up c
  put_length = on (λ (ps : List Octets). length ps ≡ goes_up c) (is_loop c) (λ z. rw z refl) (λ z. rw z refl)

  owed_none : owed_on (s.conns c).controller ≡ 0
  owed_none = zero_of (λ d. owed_on (s.conns d).controller) (all_paid_by s was.3) c five

  -- no more is owed, on a loopback or without flow control
  no_debt : owed_on (eaten (s.conns c).controller) ≤ owed_on (s.conns c).controller → debt s' ≡ 0
  no_debt h =
      let fall =
      debt_le s s' (each c (λ d y. owed_on (pick y (with_controller (eaten (s.conns d).controller) (s.conns d)) (s.conns d)).controller ≤ owed_on (s.conns d).controller) h (λ d. omega arith)) in
      omega (arith, was.3)

  owed_after : is_loop c ≡ false → owed_on (eaten (s.conns c).controller) ≡ pick b 1 0
  owed_after z =
      let flow : flows (s.conns c).controller.grant ≡ b = subst (λ d. flows (s.conns d).controller.grant ≡ b) (is_zero c z) o.flow in
      rw z (plain_owed b (segment_in (meaning p)) w (s.conns c).controller opened flow owed_none)

  debt_after : (loop y : Bool) → is_loop c ≡ loop → b ≡ y → debt s' ≡ pick loop 0 (pick y 1 0)
  debt_after true y z q = no_debt (rw z (looped_owed (segment_in (meaning p)) w (s.conns c).controller))
  debt_after false true z q =
      some_first (λ d. owed_on (s'.conns d).controller) loopbacks
      (ap (λ (d : ℕ). owed_on (s'.conns d).controller) (is_zero c z) ∙ itself ∙ owed_after z ∙ ap (λ (y : Bool). pick y 1 0) q)
    where
      itself : owed_on (s'.conns c).controller ≡ owed_on (eaten (s.conns c).controller)
      itself = rw (eq-eqb c c refl) refl
  debt_after false false z q = no_debt (omega (arith, owed_after z ∙ ap (λ (y : Bool). pick y 1 0) q))

  owed_now : debt s' ≡ leaves_owed b c
  owed_now = debt_after (is_loop c) b refl refl

  one_of_them : (loop y : Bool) → pick loop 1 0 + pick loop 0 (pick y 1 0) ≤ 1
  one_of_them true y = omega arith
  one_of_them false true = omega arith
  one_of_them false false = omega arith

  put_comes : Each (λ p. Coming (meaning p)) put
  put_comes =
      on (λ (ps : List Octets). Each (λ p. Coming (meaning p)) ps) (is_loop c)
      (λ z.
      let of_its : Each (λ p. StoredIn c (meaning p)) (p ∷ w) = rw e at (fine.standing.stores c) in
      (stored_comes c (carried_on (joined_end (segment_in (meaning p)) w (s.conns c).controller)) p (meaning p) refl of_its.0, tt))
      (λ z. tt)

  consumed_nearer : Nearer b s s'
  consumed_nearer = (
    omega (
      arith,
      weighed_falls (store_cost b) (stores s.conns) (stores s'.conns) c five (beside c eaten s.conns) one_less,
      weighed_same (hand_cost b) (hands s.conns) (hands s'.conns) (hands_still c eaten s.conns),
      consumed_cost b c,
      kept_by c eaten s.conns (λ k. length k.speech) (λ k. refl) 0,
      length-append s.up put,
      put_length,
      owed_now,
      was.3,
    ),
    record {
      few = omega (arith, was.0, was.1, was.2, length-append s.up put, put_length, owed_now, one_of_them (is_loop c) b);
      going = rw (no_length s.down was.0) tt;
      coming_up_law = each_append (λ p. Coming (meaning p)) s.up put o.coming_up_law put_comes;
      flow = kept_by c eaten s.conns (λ k. flows k.grant) (λ k. refl) 0 ∙ o.flow;
    },
  )

pub consume_nearer : (b : Bool) (s : State) (aim : ℕ) (l : ℕ → Ledger) → Fine s aim l → (c : ℕ) → possible (consume c) s ≡ true → One b s → Nearer b s (act (consume c) s).next
consume_nearer b s aim l fine c t o = go (s.conns c).controller.store refl
  where
    go : (w : List Octets) → (s.conns c).controller.store ≡ w → Nearer b s (consuming c w s).next
    go [] e = clash (ap is_nil e) (need 8 (rules (consume c) s) (possible_taken (consume c) s t))
    go (p ∷ w) e = consumed_nearer b s aim l fine c t o p w e

-- ---- credit

pub credit_nearer : (b : Bool) (s : State) → possible credit s ≡ true → One b s → Nearer b s (act credit s).next
credit_nearer b s t o = (
  omega (arith, owed, credit_paid s, longer),
  record { few = omega (arith, o.few, owed, credit_paid s, longer); going = rw (no_length s.down none_down) tt; coming_up_law = comes; flow = o.flow },
)
  where
    owed : debt s ≡ 1
    owed = rw (need 8 (rules credit s) (possible_taken credit s t)) refl

    none_down : length s.down ≡ 0
    none_down = omega (arith, o.few, owed)

    longer : length (act credit s).next.up ≡ suc (length s.up)
    longer = omega (arith, length-append s.up (act credit s).to_up)

    comes : Each (λ p. Coming (meaning p)) (act credit s).next.up
    comes =
        each_append (λ p. Coming (meaning p)) s.up (act credit s).to_up o.coming_up_law
        (rw (meaning_notice 0 6 (omega arith) (omega arith) (credits_ntf (owed_by s))) ((refl, refl, refl), tt))
