-- Each act on one connection keeps its invariant, both halves of it: Numbers and Pipes. A half that an act leaves alone is passed on.
-- Assumes nothing.
use Prim.Native.Nat.{ℕ, zero, suc, ◌-◌, ◌≤◌, ◌<◌}
use native.Mathlib.Omega.{arith}
use mathlib.Core.Bool.{Bool, true, false, ◌&&◌}
use mathlib.Core.List.{List, [], ◌∷◌, ◌++◌, append-nil}
use mathlib.Core.Path.{◌≡◌, refl, sym, ◌∙◌, subst}
use lib.ListN.{length}
use borrow.Author.Tests.{ne_eqb}
use Rattle.octets.specs.Octets.{Octets, pick}
use Rattle.packets.specs.Segments.{Segment, segments}
use Rattle.packets.specs.Reassembly.{grown, finished}
use Rattle.state.specs.Conn.{flows}
use Rattle.state.specs.Runs.{data_limit}
use Rattle.state.proofs.Chains.{and_left}
use Rattle.state.proofs.Credits.{carried_owed}
use Rattle.model.specs.Connection.{ControllerEnd, Connection, with_host, with_controller, closed as coldConnection, sent, pushed, stored, consumed, owed_on, carried_on, paid, noticed, spoken}
use Rattle.wires.specs.Meaning.{meaning}
use Rattle.ends.specs.Changes.{gives, given_to}
use Rattle.model.specs.calls.Consume.{segment_in}
use Rattle.model.specs.Observer.{Ledger, blank, put_by, pushed_l, arrived_l, consumed_l, sent_l, spoken_l}
use Rattle.model.specs.invariant.Items.{Item, credit, loaded, items_by, put_k, puts_k, read_k, reads_k, put_l, puts_l, read_l, reads_l}
use Rattle.model.specs.invariant.Link.{Good}
use Rattle.model.proofs.Cases.{clash}
use Rattle.model.proofs.Numbers.{Allowed, Handed, carried, push_numbers, deliver_numbers, drop_numbers, consume_numbers, put_numbers, read_numbers}
use Rattle.model.proofs.Pipes.{still, send_pipes, push_pipes, deliver_pipes, consume_pipes, echoed, reply_pipes, air_pipes, put_pipes, read_pipes}

-- ---- both ends cold

pub cold_good : (loop : Bool) → Good loop coldConnection [] [] blank
cold_good loop =
    record {
      numbers = record {
        opened = refl;
        counts = record { opened = refl; granted = (λ a. clash a refl); flow = (λ a y. clash a refl) };
        phase = refl;
        debts = record { bound = omega arith; granted = (λ a. refl); octet = omega arith; spare = (λ a. refl); asleep = (λ a. refl) };
        live = (λ a. clash a refl);
      };
      pipes = still refl (λ a. refl) (λ a. refl) refl;
    }

module _ {loop : Bool} {k : Connection} {d : List Segment} {u : List Item} {l : Ledger} where
  -- ---- the host sends and pushes

  pub send_good : (m : Octets) → length m ≤ data_limit → k.host.opened ≡ true → k.host.hand ≡ [] → Good loop k d u l
      → Good loop (with_host (sent m k.host) k) d u (sent_l m l)
  send_good m fit h e g = record { numbers = g.numbers; pipes = send_pipes k d u l m fit h e g.pipes }

  pub push_good : (x : Segment) (rest : List Segment) → k.host.opened ≡ true → (flows k.host.grant ≡ true → 0 < k.host.held) → k.host.hand ≡ x ∷ rest
      → Good loop k d u l → Good loop (with_host (pushed rest k.host) k) (d ++ (x ∷ [])) u (pushed_l l)
  push_good x rest h c e g = record { numbers = push_numbers k d u l x rest h c g.numbers; pipes = push_pipes k d u l x rest h e g.pipes }

  -- ---- the controller takes a packet off the down wire, and stores it where the connection is open

  pub deliver_good : (p : Octets) (x : Segment) → segment_in (meaning p) ≡ x ∷ [] → k.controller.opened ≡ true → Good loop k (x ∷ d) u l
      → Good loop (with_controller (stored p k.controller) k) d u (pick l.controller.opened (arrived_l l) l)
  deliver_good p x e c g =
      subst (λ (b : Bool). Good loop (with_controller (stored p k.controller) k) d u (pick b (arrived_l l) l)) (sym (g.numbers.opened ∙ c))
      record { numbers = deliver_numbers k d u l p x g.numbers; pipes = deliver_pipes k d u l p x e g.pipes }

  pub drop_good : (x : Segment) → k.controller.opened ≡ false → Good loop k (x ∷ d) u l
      → Good loop k d u (pick l.controller.opened (arrived_l l) l)
  drop_good x c g =
      subst (λ (b : Bool). Good loop k d u (pick b (arrived_l l) l)) (sym (g.numbers.opened ∙ c))
      record { numbers = drop_numbers k d u l x c g.numbers; pipes = still c g.pipes.hand g.pipes.reassembly (g.pipes.speech c) }

-- the controller's end with a segment consumed
abbrev pub afterwards : List Octets → Segment → ControllerEnd → ControllerEnd
afterwards rest x c = consumed rest (grown data_limit c.run x) c

module _ {k : Connection} {d : List Segment} {u : List Item} {l : Ledger} where
  -- ---- the controller consumes a stored packet; on a loopback it is put up again, with what is then owed

  pub consume_loop : (p : Octets) (rest : List Octets) (x : Segment) → segment_in (meaning p) ≡ x ∷ [] → k.controller.opened ≡ true
      → k.controller.store ≡ p ∷ rest → (flows k.controller.grant ≡ true → k.controller.owed < 255) → Good true k d u l
      → Good true (with_controller (paid (afterwards rest x k.controller)) k) d (u ++ (loaded (carried_on (afterwards rest x k.controller)) x ∷ []))
      (put_by (gives (carried_on (afterwards rest x k.controller))) (consumed_l (finished data_limit k.controller.run x) l))
  consume_loop p rest x m c e small g =
      let a = afterwards rest x k.controller in
      let n = carried_on a in
      record {
        numbers = carried (record { credits = n; segment = x }) c (carried_owed a.opened a.grant a.owed) (consume_numbers k d u l p rest x c e small g.numbers);
        pipes = consume_pipes k d u l p rest x m e (u ++ (loaded n x ∷ [])) (echoed k d u l p rest n x m e) g.pipes;
      }

  pub consume_plain : (p : Octets) (rest : List Octets) (x : Segment) → segment_in (meaning p) ≡ x ∷ [] → k.controller.opened ≡ true
      → k.controller.store ≡ p ∷ rest → (flows k.controller.grant ≡ true → k.controller.owed < 255) → Good false k d u l
      → Good false (with_controller (consumed rest (grown data_limit k.controller.run x) k.controller) k) d u
      (consumed_l (finished data_limit k.controller.run x) l)
  consume_plain p rest x m c e small g =
      record { numbers = consume_numbers k d u l p rest x c e small g.numbers; pipes = consume_pipes k d u l p rest x m e u refl g.pipes }

  -- ---- the endpoint speaks, where there is no loopback

  pub reply_good : (x : Segment) (rest : List Segment) → k.controller.opened ≡ true → k.controller.speech ≡ x ∷ rest → Good false k d u l
      → Good false (with_controller (paid (spoken rest k.controller)) k) d (u ++ (loaded (carried_on k.controller) x ∷ [])) (put_by (gives (carried_on k.controller)) l)
  reply_good x rest c e g =
      let a = k.controller in
      let n = carried_on a in
      record { numbers = carried (record { credits = n; segment = x }) c (carried_owed a.opened a.grant a.owed) g.numbers; pipes = reply_pipes k d u l n x rest c e g.pipes }

  pub air_good : (m : Octets) → length m ≤ data_limit → k.controller.opened ≡ true → k.controller.speech ≡ [] → Good false k d u l
      → Good false (with_controller (spoken (segments 255 m) k.controller) k) d u (spoken_l m l)
  air_good m fit c e g = record { numbers = g.numbers; pipes = air_pipes k d u l m fit c e g.pipes }

-- ---- items that the controller puts, and those that the host reads

-- a call puts at most one for a connection
abbrev pub MayPut : Connection → List Segment → List Item → List Item → Type 0
MayPut k d u [] = Unit {0}
MayPut k d u (i ∷ []) = Allowed k d u i
MayPut k d u (i ∷ (j ∷ is)) = ⊥

-- the host reads one after the other
abbrev pub Reads : Connection → List Item → List Octets → Type 0
Reads k [] ms = Unit {0}
Reads k (i ∷ is) ms = Handed k i ms × Reads (read_k i k) is ms

-- a connection that owes n
abbrev owing_only : ℕ → Connection → Connection
owing_only n k = let c = k.controller in with_controller (record { opened = c.opened; grant = c.grant; owed = n; store = c.store; run = c.run; speech = c.speech }) k

module _ {loop : Bool} {k : Connection} {d : List Segment} {u : List Item} {l : Ledger} where
  pub put_good : (i : Item) → Allowed k d u i → Good loop k d u l → Good loop (put_k i k) d (u ++ (i ∷ [])) (put_l i l)
  put_good i a g = record { numbers = put_numbers k d u l i a g.numbers; pipes = put_pipes k d u l i a g.pipes }

  pub puts_good : (is : List Item) → MayPut k d u is → Good loop k d u l → Good loop (puts_k is k) d (u ++ is) (puts_l is l)
  puts_good [] a g = rw append-nil g
  puts_good (i ∷ []) a g = put_good i a g
  puts_good (i ∷ (j ∷ is)) a g = absurd a

  -- a notice: all that is owed is put, where anything is
  pub notice_good : Good loop k d u l
      → Good loop (with_controller (noticed k.controller) k) d (u ++ items_by (given_to (owed_on k.controller))) (puts_l (items_by (given_to (owed_on k.controller))) l)
  notice_good g = go (k.controller.opened && flows k.controller.grant) refl
    where
      settled : (n : ℕ) → k.controller.owed ≡ n → k.controller.opened ≡ true
          → Good loop (owing_only 0 k) d (u ++ items_by (given_to n)) (puts_l (items_by (given_to n)) l)
      settled zero e o = rw append-nil (subst (λ (n : ℕ). Good loop (owing_only n k) d u l) e g)
      settled (suc n) e o =
          let none : k.controller.owed - suc n ≡ 0 = omega arith in
          rw (ne_eqb (suc n) 0 (λ q. omega arith))
          (subst (λ (w : ℕ). Good loop (owing_only w k) d (u ++ (credit (suc n) ∷ [])) (put_l (credit (suc n)) l)) none
          (put_good (credit (suc n)) (o, sym e) g))

      go : (b : Bool) → (k.controller.opened && flows k.controller.grant) ≡ b
          → Good loop (owing_only (pick b 0 k.controller.owed) k) d (u ++ items_by (given_to (pick b k.controller.owed 0))) (puts_l (items_by (given_to (pick b k.controller.owed 0))) l)
      go true e = settled k.controller.owed refl (and_left k.controller.opened (flows k.controller.grant) e)
      go false e = rw append-nil g

  pub read_good : (i : Item) (ms : List Octets) → Handed k i ms → Good loop k d (i ∷ u) l → Good loop (read_k i k) d u (read_l i ms l)
  read_good i ms h g = record { numbers = read_numbers k d u l i ms h g.numbers; pipes = read_pipes k d u l i ms h g.numbers.phase g.pipes }

pub reads_good : {loop : Bool} {k : Connection} {d : List Segment} {u : List Item} {l : Ledger} (is : List Item) (ms : List Octets) → Reads k is ms → Good loop k d (is ++ u) l
    → Good loop (reads_k is k) d u (reads_l is ms l)
reads_good [] ms r g = g
reads_good {k = k} (i ∷ is) ms r g = reads_good {k = read_k i k} is ms r.1 (read_good i ms r.0 g)
