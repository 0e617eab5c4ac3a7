-- Each act on one connection keeps its numbers: push, what down does to data, consume, the items that the controller puts up and those
-- that the host reads. What is not here, as send and air 8, leaves them as they are.
-- Assumes nothing.
use Prim.Native.Nat.{ℕ, ◌+◌, ◌-◌, ◌≤◌, ◌<◌}
use native.Mathlib.Omega.{arith}
use mathlib.Core.Bool.{Bool, true, false, ◌&&◌}
use mathlib.Core.List.{List, [], ◌∷◌, ◌++◌}
use mathlib.Core.Path.{◌≡◌, refl, subst}
use lib.ListN.{length-append}
use Rattle.octets.specs.Octets.{Octets, pick}
use Rattle.packets.specs.Segments.{Segment}
use Rattle.packets.specs.Reassembly.{grown, finished}
use Rattle.state.specs.Conn.{flows, credit_sum}
use Rattle.state.specs.Runs.{data_limit}
use Rattle.model.specs.Connection.{Connection, with_host, with_controller, pushed, credited, stored, consumed}
use Rattle.ends.specs.Changes.{gives}
use Rattle.model.specs.Observer.{Ledger, read_by, pushed_l, arrived_l, consumed_l}
use Rattle.model.specs.invariant.Items.{Load, Item, carry, credit, opened, closed, put_k, read_k, put_l, read_l, up_credits, up_returned}
use Rattle.model.specs.invariant.Phases.{Phase, shut, live, over, bad, enter, walk, start, Ends}
use Rattle.model.specs.invariant.Link.{Figures, figures, AllOpened, Agreed, Debts, Numbers}
use Rattle.model.proofs.Cases.{clash}
use Rattle.model.proofs.Items.{up_credits_append, up_returned_append, opened_append}
use Rattle.model.proofs.Phases.{walk_append, credit_first, opened_first, closed_first, phase_put, closed_ends}
use Rattle.model.proofs.Link.{held_none, owed_room}

-- ---- parts

-- other credits and other items, within the same grant
within_grant : {there here : Bool} {h n g w : ℕ} {u : List Item} → Debts there h n here g w u → {m : ℕ} {v : List Item} → m + up_returned v ≤ h
    → Debts there h m here g w v
within_grant q b = record { bound = b; granted = q.granted; octet = q.octet; spare = q.spare; asleep = q.asleep }

-- nothing is owed any more, and an item that returns nothing is put
paid_off : {there here : Bool} {h n g w : ℕ} {u : List Item} (i : Item) → up_returned (i ∷ []) ≡ 0 → Debts there h n here g w u → {b : Bool} {m : ℕ}
    → Debts there h n b m 0 (u ++ (i ∷ []))
paid_off {u = u} i e q =
    record { bound = rw up_returned_append (omega (arith, q.bound, e)); granted = q.granted; octet = q.octet; spare = (λ a. refl); asleep = (λ a. refl) }

terms_put : {there : Bool} {n g : ℕ} {u : List Item} (i : Item) → AllOpened g (i ∷ []) → Agreed there n g u → Agreed there n g (u ++ (i ∷ []))
terms_put {g = g} {u = u} i a t = record { same = t.same; under_way = opened_append g u (i ∷ []) t.under_way a }

pick_less : (b : Bool) (n : ℕ) → pick b (n - 1) n ≤ n
pick_less true n = omega arith
pick_less false n = omega arith

-- credits within an octet are their sum
small_sum : (held n : ℕ) → held + n ≤ 255 → credit_sum held n ≡ held + n
small_sum held n h = omega arith

pick_sum : (b : Bool) (m n : ℕ) → m + n ≤ 255 → pick b (credit_sum m n) m ≤ m + n
pick_sum true m n h = omega (arith, small_sum m n h)
pick_sum false m n h = omega arith

-- ---- credits are put on the up wire, in a notice or inside data

-- the numbers with n credits less owed, which the observer has counted
abbrev less : ℕ → Figures → Figures
less n f =
    let c = f.controller_count in
    record {
      there = f.there;
      host_grant = f.host_grant;
      held = f.held;
      down = f.down;
      here = f.here;
      grant = f.grant;
      stored = f.stored;
      owed = f.owed - n;
      host_count = f.host_count;
      controller_count = record { opened = c.opened; grant = c.grant; arrived = c.arrived; consumed = c.consumed; noticed = c.noticed + n };
    }

-- an item that gives n credits back and opens nothing
pub record Returns (i : Item) (n : ℕ) : Type 0 where
  pub back : up_returned (i ∷ []) ≡ n
  pub all : up_credits (i ∷ []) ≡ n
  pub enters : enter live i ≡ live
  pub opens : (g : ℕ) → AllOpened g (i ∷ [])

carry_returns : (x : Load) → Returns (carry x) x.credits
carry_returns x = record { back = omega arith; all = omega arith; enters = refl; opens = λ g. tt }

credit_returns : (n : ℕ) → Returns (credit n) n
credit_returns n = record { back = omega arith; all = omega arith; enters = refl; opens = λ g. tt }

returned : {f : Figures} {u : List Item} (i : Item) (n : ℕ) → Returns i n → f.here ≡ true → n ≤ f.owed → Numbers f u → Numbers (less n f) (u ++ (i ∷ []))
returned {f} {u} i n r c h g =
    record {
      opened = g.opened;
      counts = g.counts;
      phase = phase_put f.there u i f.here (rw c at g.phase) (rw r.enters c);
      debts =
          let q = g.debts in
          record {
            bound = rw up_returned_append (omega (arith, owed_room g c, r.back));
            granted = q.granted;
            octet = q.octet;
            spare = (λ y. omega (arith, q.spare y));
            asleep = (λ a. clash c a);
          };
      live = (λ a.
          let v = g.live a in
          record {
            sum = (λ y. rw up_credits_append (omega (arith, r.all, v.sum y)));
            terms = terms_put i (r.opens f.grant) v.terms;
            counts = record { granted = v.counts.granted; stored = v.counts.stored; owed = (λ y. omega (arith, v.counts.owed y)) };
          });
    }

pub carried : {f : Figures} {u : List Item} (x : Load) → f.here ≡ true → x.credits ≤ f.owed → Numbers f u → Numbers (less x.credits f) (u ++ (carry x ∷ []))
carried x c h g = returned (carry x) x.credits (carry_returns x) c h g

-- ---- what may be put and read

-- an item that the controller may put now; what carries data is put by consume and reply
abbrev pub Allowed : Connection → List Segment → List Item → Item → Type 0
Allowed k d u (carry x) = ⊥
Allowed k d u (credit n) = (k.controller.opened ≡ true) × (n ≡ k.controller.owed)
Allowed k d u (opened t) = (k.host.opened ≡ false) × (d ≡ []) × (u ≡ [])
Allowed k d u closed = Unit {0}

-- the messages ms are those that a segment read finishes; an opening read grants an octet of credits
abbrev pub Handed : Connection → Item → List Octets → Type 0
Handed k (carry x) ms = ms ≡ finished data_limit k.host.run x.segment
Handed k (credit n) ms = Unit {0}
Handed k (opened t) ms = t.credits ≤ 255
Handed k closed ms = Unit {0}

module _ (k : Connection) (d : List Segment) (u : List Item) (l : Ledger) where
  -- ---- the host pushes

  pub push_numbers : (x : Segment) (rest : List Segment) → k.host.opened ≡ true → (flows k.host.grant ≡ true → 0 < k.host.held)
      → Numbers (figures k d l) u → Numbers (figures (with_host (pushed rest k.host) k) (d ++ (x ∷ [])) (pushed_l l)) u
  push_numbers x rest h c g =
      record {
        opened = g.opened;
        counts = record { opened = g.counts.opened; granted = g.counts.granted; flow = (λ a y. rw y (omega (arith, g.counts.flow a y, c y))) };
        phase = g.phase;
        debts = within_grant g.debts (omega (arith, pick_less (flows k.host.grant) k.host.held, g.debts.bound));
        live = (λ a.
            let v = g.live a in
            record {
              sum = (λ y.
                  let z : flows k.host.grant ≡ true = rw (v.terms.same h) y in
                  rw z (omega (arith, length-append d (x ∷ []), v.sum y, c z)));
              terms = v.terms;
              counts = v.counts;
            });
      }

  -- ---- the controller takes a packet off the down wire, and stores it where the connection is open

  pub deliver_numbers : (p : Octets) (x : Segment) → Numbers (figures k (x ∷ d) l) u → Numbers (figures (with_controller (stored p k.controller) k) d (arrived_l l)) u
  deliver_numbers p x g =
      record {
        opened = g.opened;
        counts = g.counts;
        phase = g.phase;
        debts = g.debts;
        live = (λ a.
            let v = g.live a in
            record {
              sum = (λ y. omega (arith, length-append k.controller.store (p ∷ []), v.sum y));
              terms = v.terms;
              counts = record { granted = v.counts.granted; stored = omega (arith, length-append k.controller.store (p ∷ []), v.counts.stored); owed = v.counts.owed };
            });
      }

  pub drop_numbers : (x : Segment) → k.controller.opened ≡ false → Numbers (figures k (x ∷ d) l) u → Numbers (figures k d l) u
  drop_numbers x c g = record { opened = g.opened; counts = g.counts; phase = g.phase; debts = g.debts; live = (λ a. clash a c) }

  -- ---- the controller consumes a stored packet

  pub consume_numbers : (p : Octets) (rest : List Octets) (x : Segment) → k.controller.opened ≡ true → k.controller.store ≡ p ∷ rest
      → (flows k.controller.grant ≡ true → k.controller.owed < 255) → Numbers (figures k d l) u
      → Numbers (figures (with_controller (consumed rest (grown data_limit k.controller.run x) k.controller) k) d (consumed_l (finished data_limit k.controller.run x) l)) u
  consume_numbers p rest x c e small g =
      record {
        opened = g.opened;
        counts = g.counts;
        phase = g.phase;
        debts = let q = g.debts in record { bound = q.bound; granted = q.granted; octet = q.octet; spare = (λ y. rw y (q.spare y)); asleep = (λ a. clash c a) };
        live = (λ a.
            let v = g.live a in
            record {
              sum = (λ y. rw y (omega (arith, small y, rw e at (v.sum y))));
              terms = v.terms;
              counts = record {
                granted = v.counts.granted;
                stored = omega (arith, rw e at v.counts.stored);
                owed = (λ y. rw y (omega (arith, small y, v.counts.owed y)));
              };
            });
      }

  -- ---- the controller puts an item up: what it owes, an opening, a closing

  pub put_numbers : (i : Item) → Allowed k d u i → Numbers (figures k d l) u → Numbers (figures (put_k i k) d (put_l i l)) (u ++ (i ∷ []))
  put_numbers (carry x) a g = absurd a
  put_numbers (credit n) m g = returned (credit n) n (credit_returns n) m.0 (omega (arith, m.1)) g
  put_numbers (opened t) m g =
      record {
        opened = refl;
        counts = g.counts;
        phase = rw (m.0, m.2) refl;
        debts = paid_off (opened t) refl g.debts;
        live = (λ a.
            record {
              sum = (λ y. rw (m.1, m.2, y) (omega (arith, held_none g.debts m.0)));
              terms = record { same = (λ b. clash b m.0); under_way = rw m.2 (refl, tt) };
              counts = record { granted = refl; stored = refl; owed = (λ y. refl) };
            });
      }
  put_numbers closed m g =
      record {
        opened = refl;
        counts = g.counts;
        phase = rw walk_append (closed_ends (walk (start k.host.opened) u) k.controller.opened g.phase);
        debts = paid_off closed refl g.debts;
        live = (λ a. clash a refl);
      }

  -- ---- the host reads an item

  read_credits : (n : ℕ) → Numbers (figures k d l) (credit n ∷ u) → Numbers (figures (with_host (credited n k.host) k) d (read_by (gives n) l)) u
  read_credits n g =
      let p = credit_first k.host.opened k.controller.opened n u g.phase in
      let octet : k.host.held + n ≤ 255 = omega (arith, g.debts.bound, g.debts.octet) in
      let more = small_sum k.host.held n octet in
      record {
        opened = g.opened;
        counts = record { opened = g.counts.opened; granted = g.counts.granted; flow = (λ a y. rw (a, y) (omega (arith, more, g.counts.flow a y))) };
        phase = p.1;
        debts = within_grant g.debts (omega (arith, pick_sum (k.host.opened && flows k.host.grant) k.host.held n octet, g.debts.bound));
        live = (λ a.
            let v = g.live a in
            record {
              sum = (λ y. let z : flows k.host.grant ≡ true = rw (v.terms.same p.0) y in rw (p.0, z) (omega (arith, more, v.sum y)));
              terms = record { same = v.terms.same; under_way = v.terms.under_way };
              counts = v.counts;
            });
      }

  -- credits inside data count as those of a notice
  as_notice : (x : Load) → Numbers (figures k d l) (carry x ∷ u) → Numbers (figures k d l) (credit x.credits ∷ u)
  as_notice x g =
      record {
        opened = g.opened;
        counts = g.counts;
        phase = subst (λ (p : Phase). Ends (walk p u) k.controller.opened) (same (start k.host.opened)) g.phase;
        debts = within_grant g.debts g.debts.bound;
        live = (λ a. let v = g.live a in record { sum = v.sum; terms = record { same = v.terms.same; under_way = v.terms.under_way }; counts = v.counts });
      }
    where
      same : (p : Phase) → enter p (carry x) ≡ enter p (credit x.credits)
      same shut = refl
      same live = refl
      same over = refl
      same bad = refl

  pub read_numbers : (i : Item) (ms : List Octets) → Handed k i ms → Numbers (figures k d l) (i ∷ u) → Numbers (figures (read_k i k) d (read_l i ms l)) u
  read_numbers (carry x) ms h g = read_credits x.credits (as_notice x g)
  read_numbers (credit n) ms h g = read_credits n g
  read_numbers (opened t) ms h g =
      let p = opened_first k.host.opened k.controller.opened t u g.phase in
      record {
        opened = g.opened;
        counts = record { opened = refl; granted = (λ a. refl); flow = (λ a y. refl) };
        phase = p.1;
        debts = let q = g.debts in record { bound = omega (arith, q.bound, q.granted p.0); granted = (λ a. clash refl a); octet = h; spare = q.spare; asleep = q.asleep };
        live = (λ a.
            let v = g.live a in
            record {
              sum = (λ y. let z : flows t.credits ≡ true = rw v.terms.under_way.0 y in omega (arith, rw z at (v.sum y), held_none g.debts p.0));
              terms = record { same = (λ b. v.terms.under_way.0); under_way = v.terms.under_way.1 };
              counts = v.counts;
            });
      }
  read_numbers closed ms h g =
      let p = closed_first k.host.opened k.controller.opened u g.phase in
      record {
        opened = g.opened;
        counts = record { opened = refl; granted = (λ a. clash a refl); flow = (λ a y. clash a refl) };
        phase = p.0;
        debts = record { bound = none k.host.opened refl p.2; granted = (λ a. refl); octet = omega arith; spare = g.debts.spare; asleep = g.debts.asleep };
        live = (λ a.
            let v = g.live a in
            record {
              sum = (λ y. omega (arith, v.sum y, held_none g.debts (p.1 a)));
              terms = record { same = (λ b. clash b refl); under_way = v.terms.under_way };
              counts = v.counts;
            });
      }
    where
      none : (b : Bool) → k.host.opened ≡ b → (k.host.opened ≡ true → up_returned u ≡ 0) → 0 + up_returned u ≤ 0
      none true e r = omega (arith, r e)
      none false e r = omega (arith, g.debts.bound, g.debts.granted e)
