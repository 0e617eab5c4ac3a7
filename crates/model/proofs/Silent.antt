-- At rest, where no move is possible, both wires and all stores are empty, nothing is owed, no command is unanswered, and no message is in
-- hand anywhere: on every bench that calls make.
-- Assumes nothing.
use Prim.Native.Nat.{ℕ, ◌<◌}
use native.Mathlib.Omega.{arith}
use mathlib.Core.Path.{◌≡◌, refl, sym, ap, ◌∙◌, subst}
use mathlib.Core.Bool.{Bool, true, false, ◌&&◌, ◌||◌}
use mathlib.Core.List.{List, [], ◌∷◌, map, ◌++◌, append-nil, cons≢nil}
use lib.Dec.{eqb, leb}
use lib.ListN.{length}
use borrow.Author.Tests.{eqb-true, leb-true, ne_eqb, not-false}
use Rattle.std.specs.Prelude.{Option, Some, None}
use Rattle.octets.specs.Octets.{Octets, pick}
use Rattle.packets.specs.Segments.{Segment, parse}
use Rattle.packets.specs.Reassembly.{Run, Flow}
use Rattle.state.specs.Conn.{flows}
use Rattle.state.specs.Profile.{credits_ok}
use Rattle.state.proofs.Chains.{and_left, and_right}
use Rattle.dh.specs.Host.{is_closing}
use Rattle.wires.specs.Meaning.{Meaning, datum, control, junk, meaning}
use Rattle.model.specs.Kinds.{Asked}
use Rattle.model.specs.Connection.{owed_on}
use Rattle.model.specs.State.{State}
use Rattle.model.specs.Effects.{push, down, consume, credit, reply, up, is_taken}
use Rattle.model.specs.Refusals.{rule, first, is_nil, no_conn, full, ids}
use Rattle.model.specs.calls.Consume.{is_loop}
use Rattle.model.specs.calls.Down.{needs_two, too_tight, store_full, first_full}
use Rattle.model.specs.calls.Credit.{owed_by, all_zero}
use Rattle.model.specs.Observer.{Ledger, Account, after}
use Rattle.model.specs.Press.{passing, starting, moves, possible, rests, move, presses}
use Rattle.model.specs.Rest.{bound, Silent, Rests, AlwaysRests, Delivered, AlwaysDelivered}
use Rattle.model.specs.invariant.Items.{items_of, segs_of, store_segs, up_segs}
use Rattle.model.specs.invariant.Commands.{heads, replies, pending_name}
use Rattle.model.specs.invariant.Link.{figures, Balance, ways, below, source}
use Rattle.model.specs.invariant.Bench.{Fine, Kept}
use Rattle.model.proofs.Cases.{clash}
use Rattle.model.proofs.Trace.{calls_keep, reachable}
use Rattle.model.proofs.Sums.{known_conn}
use Rattle.model.proofs.Press.{NoneOf, none_of, none_left, none_right, no_move, within_most, most_bound, settles}

-- ---- small laws

pub and_false : (b : Bool) → (b && false) ≡ false
and_false true = refl
and_false false = refl

-- what is no loopback is connection 0
pub is_zero : (c : ℕ) → is_loop c ≡ false → 0 ≡ c
is_zero c l = eqb-true 0 c (not-false (eqb 0 c) l)

-- a grant of the profile is no 0
granted_some : (n : ℕ) → credits_ok n ≡ true → 0 < n
granted_some n e = go (leb 1 n) refl e
  where
    go : (b : Bool) → leb 1 n ≡ b → ((b && leb n 8) || eqb n 255) ≡ true → 0 < n
    go true t h = omega (arith, leb-true 1 n t)
    go false t h = omega (arith, eqb-true n 255 h)

none_pending : (p : Option Asked) → [] ≡ pending_name p → is_closing p ≡ false
none_pending None e = refl
none_pending (Some a) e = absurd (cons≢nil (sym e))

-- each of these is 0
abbrev Zeros : (ℕ → ℕ) → List ℕ → Type 0
Zeros k [] = Unit {0}
Zeros k (c ∷ l) = (k c ≡ 0) × Zeros k l

zeros : (k : ℕ → ℕ) (l : List ℕ) → all_zero (map k l) ≡ true → Zeros k l
unfolding all_zero
zeros k [] e = tt
zeros k (c ∷ l) e = (eqb-true (k c) 0 (and_left (eqb (k c) 0) (all_zero (map k l)) e), zeros k l (and_right (eqb (k c) 0) (all_zero (map k l)) e))

pub zero_of : (k : ℕ → ℕ) → all_zero (map k ids) ≡ true → (d : ℕ) → no_conn d ≡ false → k d ≡ 0
zero_of k e d n =
    let z = zeros k ids e in
    known_conn (λ x. k x ≡ 0) d n z.0 z.1.0 z.1.1.0 z.1.1.1.0 z.1.1.1.1.0

-- with no segment under way, all is handed out
flow_done : {limit : ℕ} {q : Run} {ss : List Segment} {taken out : List Octets} → Flow limit q ss taken out → ss ≡ [] → out ≡ taken
unfolding parse
flow_done {limit} {q} {ss} {taken} {out} w e = sym (w.rest ∙ (λ i. out ++ parse w.so_far (e i)) ∙ append-nil out)

-- ---- where nothing that is under way goes on, nothing is under way

module _ (s : State) (aim : ℕ) (l : ℕ → Ledger) (f : Fine s aim l) (none : NoneOf passing s) where
  pub up_empty : s.up ≡ []
  unfolding first
  up_empty = go s.up refl
    where
      go : (w : List Octets) → s.up ≡ w → w ≡ []
      go [] e = refl
      go (p ∷ w) e = clash {b = possible up s} (rw e refl) none.0

  cannot_consume : (c : ℕ) → no_conn c ≡ false → possible (consume c) s ≡ false
  cannot_consume c n =
      let k = none.1.1 in
      known_conn (λ x. possible (consume x) s ≡ false) c n k.0 k.1.0 k.1.1.0 k.1.1.1.0 k.1.1.1.1.0

  -- a connection that is open is one of the five
  pub known : (c : ℕ) → (s.conns c).controller.opened ≡ true → no_conn c ≡ false
  known c o = go (no_conn c) refl
    where
      go : (b : Bool) → no_conn c ≡ b → b ≡ false
      go true e = clash o (f.standing.known c e)
      go false e = refl

  pub store_empty : (c : ℕ) → (s.conns c).controller.opened ≡ true → (s.conns c).controller.store ≡ []
  unfolding first
  store_empty c o = go (s.conns c).controller.store refl
    where
      go : (w : List Octets) → (s.conns c).controller.store ≡ w → w ≡ []
      go [] e = refl
      go (p ∷ w) e = clash {b = possible (consume c) s} (rw (known c o, up_empty, and_false (is_loop c), o, e) refl) (cannot_consume c (known c o))

  store_room : (q : Meaning) → store_full s q ≡ false
  store_room (datum c n x) = go (s.conns c).controller.opened refl
    where
      go : (b : Bool) → (s.conns c).controller.opened ≡ b → (b && leb 8 (length (s.conns c).controller.store)) ≡ false
      go true o = rw (store_empty c o) refl
      go false o = refl
  store_room (control mt gid oid x) = refl
  store_room junk = refl

  tight : (q : Meaning) → (needs_two q && full 2 s.up) ≡ false
  tight q = ap (λ (w : List Octets). needs_two q && full 2 w) up_empty ∙ and_false (needs_two q)

  pub down_empty : s.down ≡ []
  unfolding first
  down_empty = go s.down refl
    where
      asked : List Octets → Bool
      asked w = is_taken (first (rule 4 (too_tight s w) ∷ rule 8 (is_nil w) ∷ rule 12 (first_full s w) ∷ []))

      go : (w : List Octets) → s.down ≡ w → w ≡ []
      go [] e = refl
      go (p ∷ w) e =
          let room : asked (p ∷ w) ≡ true = rw (tight (meaning p), store_room (meaning p)) refl in
          clash {b = possible down s} (ap asked e ∙ room) none.1.0

  pub all_paid : all_zero (owed_by s) ≡ true
  unfolding first
  all_paid = go (all_zero (owed_by s)) refl
    where
      go : (b : Bool) → all_zero (owed_by s) ≡ b → b ≡ true
      go true e = refl
      go false e = clash {b = possible credit s} (rw (up_empty, e) refl) none.1.1.1.1.1.1.1.0

  not_closing : is_closing s.host.pending ≡ false
  unfolding heads replies
  not_closing = none_pending s.host.pending (rw (up_empty, down_empty) at f.order.single)

  -- what is open at the host is open at the controller
  pub open_here : (c : ℕ) → (s.conns c).host.opened ≡ true → (s.conns c).controller.opened ≡ true
  unfolding items_of
  open_here c o = rw (up_empty, o) at (f.good c).numbers.phase

  -- all of its grant is held
  held_some : (c : ℕ) → (s.conns c).host.opened ≡ true → flows (s.conns c).host.grant ≡ true → 0 < (s.conns c).host.held
  unfolding items_of segs_of
  held_some c o y =
      let here = open_here c o in
      let b : Balance (figures (s.conns c) (segs_of c s.down) (l c)) (items_of aim c s.up) = (f.good c).numbers.live here in
      let same = b.terms.same o in
      let flow : flows (s.conns c).controller.grant ≡ true = rw (sym same) y in
      let paid : owed_on (s.conns c).controller ≡ 0 = zero_of (λ d. owed_on (s.conns d).controller) all_paid c (known c here) in
      let owed : (s.conns c).controller.owed ≡ 0 = rw (here, flow) at paid in
      let some = granted_some (s.conns c).controller.grant (rw (f.standing.granted c here) (f.limits.terms c).credits_ok_law) in
      let sum = rw (up_empty, down_empty, store_empty c here) at (b.sum flow) in
      omega arith

-- ---- at rest no message is in hand

module _ (s : State) (aim : ℕ) (l : ℕ → Ledger) (f : Fine s aim l) (still : move s ≡ rests) where
  under : NoneOf passing s
  under = none_left passing starting s (none_of moves s still)

  idle : NoneOf starting s
  idle = none_right passing starting s (none_of moves s still)

  cannot_push : (c : ℕ) → no_conn c ≡ false → possible (push c) s ≡ false
  cannot_push c n =
      let k = idle in
      known_conn (λ x. possible (push x) s ≡ false) c n k.0 k.1.0 k.1.1.0 k.1.1.1.0 k.1.1.1.1.0

  speech_empty : (s.conns 0).controller.speech ≡ []
  unfolding first
  speech_empty = go (s.conns 0).controller.speech refl
    where
      go : (w : List Segment) → (s.conns 0).controller.speech ≡ w → w ≡ []
      go [] e = refl
      go (p ∷ w) e = clash {b = possible reply s} (rw (up_empty s aim l f under, e) refl) idle.1.1.1.1.1.0

  hand_empty : (c : ℕ) → (s.conns c).host.hand ≡ []
  unfolding first
  hand_empty c = go (s.conns c).host.opened refl
    where
      there : (s.conns c).host.opened ≡ true → (h : List Segment) → (s.conns c).host.hand ≡ h → h ≡ []
      there o [] e = refl
      there o (x ∷ h) e =
          clash {b = possible (push c) s} (rw (known s aim l f under c (open_here s aim l f under c o), down_empty s aim l f under, o, e, credit_some, not_closing s aim l f under) refl) (cannot_push c (known s aim l f under c (open_here s aim l f under c o)))
        where
          credit_some : (flows (s.conns c).host.grant && eqb (s.conns c).host.held 0) ≡ false
          credit_some = flowing (flows (s.conns c).host.grant) refl
            where
              flowing : (b : Bool) → flows (s.conns c).host.grant ≡ b → (b && eqb (s.conns c).host.held 0) ≡ false
              flowing true y = ne_eqb (s.conns c).host.held 0 (λ z. omega (arith, held_some s aim l f under c o y))
              flowing false y = refl

      go : (b : Bool) → (s.conns c).host.opened ≡ b → (s.conns c).host.hand ≡ []
      go true o = there o (s.conns c).host.hand refl
      go false o = (f.good c).pipes.hand o

  pub silent : Silent s
  silent = record { host = hand_empty; endpoint = speech_empty }

  -- what is under way of a connection is nothing, so what was taken has been handed out
  module _ (c : ℕ) (o : (s.conns c).controller.opened ≡ true) where
    none_below : below (ways (s.conns c) (segs_of c s.down) (items_of aim c s.up) (l c)) ≡ []
    unfolding store_segs segs_of
    none_below = rw (store_empty s aim l f under c o, down_empty s aim l f under, hand_empty c) refl

    none_above : up_segs (items_of aim c s.up) ≡ []
    unfolding items_of
    none_above = rw (up_empty s aim l f under) refl

    to_controller_law : (l c).talk.out_controller ≡ (l c).talk.sent
    to_controller_law = flow_done ((f.good c).pipes.to_controller o) none_below

    none_coming : (b : Bool) → is_loop c ≡ b → source b (ways (s.conns c) (segs_of c s.down) (items_of aim c s.up) (l c)) ≡ []
    none_coming true e = none_below
    none_coming false e = subst (λ d. (s.conns d).controller.speech ≡ []) (is_zero c e) speech_empty

    to_host_law : (b : Bool) → is_loop c ≡ b → (l c).talk.out_host ≡ pick b (l c).talk.sent (l c).talk.spoken
    to_host_law b e =
        flow_done ((f.good c).pipes.to_host o)
        ((λ i. none_above i ++ source (is_loop c) (ways (s.conns c) (segs_of c s.down) (items_of aim c s.up) (l c))) ∙ none_coming (is_loop c) refl)
        ∙ ap (λ (y : Bool). pick y (l c).talk.sent (l c).talk.spoken) e

-- ---- of every bench that calls make

-- from the invariant, whatever made it hold
pub kept_rests : (s : State) (o : Account) → Kept s o → Rests s
kept_rests s o k =
    record {
      within = λ n. omega (arith, within_most n s, most_bound s);
      ends = settles (bound s) s (most_bound s);
      silent = λ n e. silent _ _ _ (calls_keep (presses n s) s o k).fine (no_move (after (presses n s) s) e);
    }

pub always_rests : AlwaysRests
always_rests profile ok calls = kept_rests _ _ (reachable profile ok calls)

-- at rest all that was taken has been handed out
pub kept_delivered : (s : State) (o : Account) → Kept s o → move s ≡ rests → (c : ℕ) → Delivered c o
kept_delivered s o k still c =
    let same = (k.fine.good c).numbers.opened in
    record {
      at_controller_law = λ e. to_controller_law s o.aim o.ledger k.fine still c (sym same ∙ e);
      at_host_law = λ e b. to_host_law s o.aim o.ledger k.fine still c (sym same ∙ e) true b;
      at_host_static = λ e b. to_host_law s o.aim o.ledger k.fine still c (sym same ∙ e) false b;
    }

pub always_delivered : AlwaysDelivered
always_delivered profile ok calls = kept_delivered _ _ (reachable profile ok calls)
