-- down: the tests of its rules on numbers, what is known where none applies, and that it is the model's down.
-- Assumes nothing.
use Prim.Native.Nat.{ℕ, ◌+◌, ◌≤◌, ◌<◌}
use native.Mathlib.Omega.{arith}
use mathlib.Core.Path.{◌≡◌, refl, sym, ap, ◌∙◌, subst}
use mathlib.Core.Bool.{Bool, true, false, not, ◌&&◌}
use mathlib.Core.List.{List, [], ◌∷◌}
use lib.ListN.{length, length-set}
use lib.Dec.{eqb, leb, ltb}
use borrow.Author.Tests.{eqb-true, eqb-false, eq-eqb, ne_eqb, leb-false, lt-ltb, le-ltb, ltb-true, ltb-false}
use Rattle.octets.specs.Octets.{Octets, pick, cut}
use Rattle.octets.specs.Octal.{Octal}
use Rattle.octets.proofs.Octets.{length_splice}
use Rattle.octets.proofs.Octal.{octal_cut, octal_splice}
use Rattle.packets.specs.Packet.{read_of, payload_of}
use Rattle.packets.specs.Reserved.{rfu_by}
use Rattle.packets.specs.Segments.{Segment, segment}
use Rattle.packets.proofs.Packet.{read_ranged}
use Rattle.packets.proofs.Reserved.{rfu_octet}
use Rattle.calls.specs.Kinds.{Header, Reading, Counts, Record}
use Rattle.std.specs.Prelude.{Some, None}
use Rattle.calls.specs.Kinds.way as way
use Rattle.state.specs.Conn.{place_of, counts_of, open_at}
use Rattle.state.proofs.Conns.{open_place}
use Rattle.area.specs.Map.{message_size, slot_size, wire_slots, store_slots, places, down_at, store_at}
use Rattle.area.specs.Ring.{slot_packet, trim, free_at, put_into}
use Rattle.area.proofs.Rings.{length_packets, wire, packets_took}
use Rattle.area.proofs.Moves.{payload_few}
use Rattle.record.specs.Reading.{decode_of}
use Rattle.record.specs.Fit.{Shape, Fit, FitCounts}
use Rattle.record.specs.Small.{SmallCounts, Small}
use Rattle.record.specs.Plan.{with_store}
use Rattle.record.proofs.Small.{small_decode}
use Rattle.record.proofs.Conns.{conns_set}
use Rattle.record.proofs.Taken.{wire_took}
use Rattle.views.specs.View.{down_of, up_of, view}
use Rattle.views.specs.Moves.{Sound}
use Rattle.views.proofs.Whole.{moves}
use Rattle.views.proofs.Tests.{packets_nil, up_full}
use Rattle.wires.specs.Meaning.{Meaning, datum, control, junk, meant, meaning}
use Rattle.wires.proofs.Slots.{first_slot, read_slot, meaning_junk, meaning_packet}
use Rattle.model.specs.Connection as connection
use Rattle.model.specs.State as bench
use Rattle.model.specs.Effects.{Effect, down, taken, quiet, flagged_as, telling}
use Rattle.model.specs.Refusals.{Rule, rule, first, is_nil, full}
use Rattle.model.specs.calls.Down.{needs_two, too_tight, store_full, first_full, asked, storing, arriving, down_rules}
use Rattle.model.specs.Bench.{act}
use Rattle.model.proofs.Order.{need}
use Rattle.calls.specs.Outcome.{Outcome, lowest}
use Rattle.calls.specs.Seen.{Puts}
use Rattle.calls.specs.Refines.{Good, Follows, Along, RefinesTo, Refines}
use Rattle.calls.specs.calls.Down.{down_slot, down_read, took_down, down_dropped, controller_side, stored_record, stored_slot, data_stored, data_down, command_down, arrived, downed, down_call, Arrivable, Downable}
use Rattle.calls.proofs.Called.{sound_area}
use Rattle.calls.proofs.Refine.{called_refines}
use Rattle.calls.proofs.Taken.{added_none, took_refines, tells_refines}
use Rattle.calls.proofs.DownCommand.{does_command}

-- ---- the rules on numbers, by what the reader finds in the first slot

-- the last packet of a command, and fewer than two free slots up
abbrev pub tight_by : Record → Reading → Bool
tight_by r (Some (h, n)) = eqb h.mt 1 && not h.pbf && ltb 14 r.up.count
tight_by r None = false

-- data of an open connection whose store is full
abbrev pub full_by : Record → Reading → Bool
full_by r (Some (h, n)) = eqb h.mt 0 && open_at r.ends.conns h.id && leb store_slots (controller_side r h.id).store.count
full_by r None = false

-- of an empty wire nothing is read
abbrev pub down_tests : Record → Reading → List Rule
down_tests r x =
    rule 4 (not (eqb r.down.count 0) && tight_by r x)
    ∷ rule 8 (eqb r.down.count 0)
    ∷ rule 12 (not (eqb r.down.count 0) && full_by r x)
    ∷ []

-- ---- the first packet

module _ (a : Octets) (r : Record) where
  abbrev pub packet : Octets
  packet = slot_packet down_at a r.down.head

  pub packet_read : (h : Header) (n : ℕ) → down_read r a ≡ Some (h, n) → meaning packet ≡ meant h (segment h.pbf (payload_of (cut (down_slot r) slot_size a) n))
  packet_read h n e = ap meaning (first_slot down_at a r.down.head) ∙ meaning_packet (cut (down_slot r) slot_size a) h n e

  pub packet_dropped : down_read r a ≡ None → meaning packet ≡ junk
  packet_dropped e = ap meaning (first_slot down_at a r.down.head) ∙ meaning_junk (cut (down_slot r) slot_size a) e

  pub packet_rfu : rfu_by way.Down (read_of packet) ≡ rfu_by way.Down (down_read r a)
  packet_rfu = ap (rfu_by way.Down) (read_slot down_at a r.down.head)

-- ---- its tests

needs_two_law : (h : Header) (v : Octets) → needs_two (meant h (segment h.pbf v)) ≡ (eqb h.mt 1 && not h.pbf)
needs_two_law h v = go (eqb h.mt 0) refl h.pbf
  where
    no : (b : Bool) → false ≡ (b && false)
    no true = refl
    no false = refl

    yes_if : (b : Bool) → b ≡ (b && true)
    yes_if true = refl
    yes_if false = refl

    go : (b : Bool) → eqb h.mt 0 ≡ b → (f : Bool) → needs_two (pick b (datum h.id h.credits (segment f v)) (control h.mt h.id h.oid (segment f v))) ≡ (eqb h.mt 1 && not f)
    go true e f = let z : eqb h.mt 1 ≡ false = ne_eqb h.mt 1 (λ q. let y = eqb-true h.mt 0 e in omega arith) in rw z
    go false e true = no (eqb h.mt 1)
    go false e false = yes_if (eqb h.mt 1)

two_free : (n : ℕ) → ltb wire_slots (n + 2) ≡ ltb 14 n
two_free n = go (ltb 14 n) refl
  where
    go : (b : Bool) → ltb 14 n ≡ b → ltb wire_slots (n + 2) ≡ b
    go true e = let h = ltb-true 14 n e in lt-ltb wire_slots (n + 2) (omega arith)
    go false e = let h = ltb-false 14 n e in le-ltb wire_slots (n + 2) (omega arith)

module _ (a : Octets) (r : Record) where
  tight_is : (x : Reading) → down_read r a ≡ x → (needs_two (meaning (packet a r)) && full 2 (up_of a r)) ≡ tight_by r x
  tight_is (Some (h, n)) e =
      let room : full 2 (up_of a r) ≡ ltb 14 r.up.count = up_full 2 a r ∙ two_free r.up.count in
      (λ i. needs_two (packet_read a r h n e i) && room i)
      ∙ (λ i. needs_two_law h (payload_of (cut (down_slot r) slot_size a) n) i && ltb 14 r.up.count)
  tight_is None e = λ i. needs_two (packet_dropped a r e i) && full 2 (up_of a r)

  full_is : (x : Reading) → down_read r a ≡ x → store_full (view a r) (meaning (packet a r)) ≡ full_by r x
  unfolding open_at
  full_is (Some (h, n)) e =
      (λ i. store_full (view a r) (packet_read a r h n e i)) ∙ go (eqb h.mt 0)
    where
      x : Segment
      x = segment h.pbf (payload_of (cut (down_slot r) slot_size a) n)

      go : (b : Bool) → store_full (view a r) (pick b (datum h.id h.credits x) (control h.mt h.id h.oid x))
          ≡ (b && (controller_side r h.id).opened && leb store_slots (controller_side r h.id).store.count)
      go true = λ i. (controller_side r h.id).opened && leb store_slots (length_packets (store_at (place_of h.id)) store_slots a (controller_side r h.id).store i)
      go false = refl
  full_is None e = λ i. store_full (view a r) (packet_dropped a r e i)

  pub down_tests_law : r.down.head < wire_slots → down_rules (view a r) ≡ down_tests r (down_read r a)
  down_tests_law low = go (eqb r.down.count 0) refl
    where
      s : bench.State
      s = view a r

      x : Reading
      x = down_read r a

      -- no packet
      none : (l : List Octets) → is_nil l ≡ true → rule 4 (too_tight s l) ∷ rule 8 (is_nil l) ∷ rule 12 (first_full s l) ∷ [] ≡ rule 4 false ∷ rule 8 true ∷ rule 12 false ∷ []
      none [] e = refl
      none (p ∷ w) e = absurd (let z : ◌≡◌ {A = ℕ} 0 1 = cc in omega arith)

      go : (b : Bool) → eqb r.down.count 0 ≡ b
          → down_rules s ≡ rule 4 (not (eqb r.down.count 0) && tight_by r x) ∷ rule 8 (eqb r.down.count 0) ∷ rule 12 (not (eqb r.down.count 0) && full_by r x) ∷ []
      go true e =
          none (down_of a r) (packets_nil down_at wire_slots a r.down ∙ e)
          ∙ sym (λ i. rule 4 (not (e i) && tight_by r x) ∷ rule 8 (e i) ∷ rule 12 (not (e i) && full_by r x) ∷ [])
      go false e =
          let ne : r.down.count ≡ 0 → ⊥ = eqb-false r.down.count 0 e in
          let took = packets_took down_at wire_slots wire a r.down low (omega (arith, ne)) in
          (λ i. rule 4 (too_tight s (took i)) ∷ rule 8 (is_nil (took i)) ∷ rule 12 (first_full s (took i)) ∷ [])
          ∙ (λ i. rule 4 (tight_is x refl i) ∷ rule 8 false ∷ rule 12 (full_is x refl i) ∷ [])
          ∙ sym (λ i. rule 4 (not (e i) && tight_by r x) ∷ rule 8 (e i) ∷ rule 12 (not (e i) && full_by r x) ∷ [])

  -- the number of the first that applies: for an empty wire, and by what was read
  pub down_empty : r.down.head < wire_slots → eqb r.down.count 0 ≡ true → 8 ≡ lowest (down_rules (view a r))
  unfolding lowest
  down_empty low e = rw e at (sym (ap lowest (down_tests_law low)))

  pub down_lowest : r.down.head < wire_slots → eqb r.down.count 0 ≡ false → (x : Reading) → down_read r a ≡ x
      → pick (tight_by r x) 4 (pick (full_by r x) 12 0) ≡ lowest (down_rules (view a r))
  unfolding lowest
  down_lowest low e x f = rw e at (sym (ap lowest (down_tests_law low ∙ ap (down_tests r) f)))

  -- ---- what is known where none applies

  pub down_facts : Sound a r → first (down_tests r (down_read r a)) ≡ taken → Downable r a
  down_facts s t =
      let x : Reading = down_read r a in
      let none : eqb r.down.count 0 ≡ false = need 8 (down_tests r x) t in
      let ne : r.down.count ≡ 0 → ⊥ = eqb-false r.down.count 0 none in
      let loose : tight_by r x ≡ false = sym (λ i. not (none i) && tight_by r x) ∙ need 4 (down_tests r x) t in
      let free : full_by r x ≡ false = sym (λ i. not (none i) && full_by r x) ∙ need 12 (down_tests r x) t in
      record {
        some = omega (arith, ne);
        ring = s.fit.down;
        packet =
            λ h n e.
            let five = s.shape.conns in
            let tight : (eqb h.mt 1 && not h.pbf && ltb 14 r.up.count) ≡ false = sym (ap (tight_by r) e) ∙ loose in
            let many : (eqb h.mt 0 && open_at r.ends.conns h.id && leb store_slots (controller_side r h.id).store.count) ≡ false = sym (ap (full_by r) e) ∙ free in
            record {
              place = λ w. open_place r.ends.conns h.id five w;
              store = λ w. (s.fit.conns (place_of h.id) (open_place r.ends.conns h.id five w)).store;
              room = λ m w. leb-false store_slots _ (sym (λ i. eq-eqb h.mt 0 m i && w i && leb store_slots (controller_side r h.id).store.count) ∙ many);
              ring = s.fit.up;
              two =
                  λ m w.
                  let few : r.up.count ≤ 14 = ltb-false 14 r.up.count (sym (λ i. eq-eqb h.mt 1 m i && not (w i) && ltb 14 r.up.count) ∙ tight) in
                  omega arith;
            };
      }

-- ---- data is stored

module _ (a out : Octets) (t : Record) (s : Sound a t) (small : Small t) (o : Octal a) (slot c : ℕ) (room : slot + slot_size ≤ length a) (place : place_of c < places) (free : (controller_side t c).store.count < store_slots) where
  abbrev new : Counts
  new = record { host = (counts_of t.ends.conns c).host; controller = with_store (put_into (controller_side t c).store) (controller_side t c) }

  there : place_of c < length t.ends.conns
  there = omega (arith, place, s.shape.conns)

  stored_fit : Fit (stored_record t c)
  stored_fit =
      let f = s.fit in
      let k = f.conns (place_of c) place in
      record {
        down = f.down;
        up = f.up;
        own = f.own;
        conns =
            conns_set FitCounts t.ends.conns (place_of c) new there
            (record {
              payload = k.payload;
              hand = k.hand;
              host_run_law = k.host_run_law;
              store = record { head = k.store.head; count = omega arith };
              controller_run_law = k.controller_run_law;
            })
            f.conns;
      }

  stored_small : Small (stored_record t c)
  stored_small =
      let k = small.conns (place_of c) place in
      record {
        own = small.own;
        conns =
            conns_set SmallCounts t.ends.conns (place_of c) new there
            (record { payload = k.payload; host_grant_law = k.host_grant_law; held = k.held; grant = k.grant; owed = k.owed })
            small.conns;
      }

  stored_shape : Shape (stored_record t c)
  stored_shape = record { pairs = s.shape.pairs; conns = length-set t.ends.conns (place_of c) new ∙ s.shape.conns }

  abbrev effect : Octets → Effect
  effect p = quiet (bench.with_conns (bench.at c (λ k. connection.with_controller (connection.stored p k.controller) k) (view a t).conns) (view a t))

  stored_refines : (q : Puts) → Follows q.down t.down → Follows q.up t.up
      → RefinesTo down q (data_stored t slot c a out) (record { answer = taken; effect = effect (trim (cut slot slot_size a)) })
  stored_refines q fd fu =
      let at = free_at (store_at (place_of c)) store_slots (controller_side t c).store in
      took_refines down q (stored_slot t slot c a) out (stored_record t c) false false 0 0 0 (effect (trim (cut slot slot_size a)))
      (record {
        long = omega (arith, s.room, length_splice a at (cut slot slot_size a));
        fit = stored_fit;
        shape = stored_shape;
        octal = octal_splice at o (octal_cut slot slot_size o);
        small = stored_small;
        short = omega arith;
        drop = refl;
        rfu = refl;
        message = refl;
        next = (moves a t s).put_store c slot place room free;
        to_down = added_none q.down t.down (down_of a t) fd;
        to_up = added_none q.up t.up (up_of a t) fu;
      })
      refl

-- ---- a down that is taken

module _ (a out : Octets) (r : Record) (s : Sound a r) (small : Small r) (o : Octal a) (d : Downable r a) (q : Puts) (fd : Follows q.down r.down) (fu : Follows q.up r.up) where
  abbrev t : Record
  t = took_down r

  ts : Sound a t
  ts =
      let f = s.fit in
      record { room = s.room; fit = record { down = wire_took r.down f.down; up = f.up; own = f.own; conns = f.conns }; shape = record { pairs = s.shape.pairs; conns = s.shape.conns } }

  tsmall : Small t
  tsmall = record { own = small.own; conns = small.conns }

  td : Follows q.down t.down
  td = omega (arith, fd, d.some, d.ring.head)

  abbrev Does : Outcome → Effect → Type 0
  Does y e = RefinesTo down q y (record { answer = taken; effect = e })

  -- the model takes the packet off the wire
  acts : act down (view a r) ≡ telling (rfu_by way.Down (read_of (packet a r))) (arriving (meaning (packet a r)) (packet a r) (view a t))
  acts = ap (act down) ((moves a r s).took_down_law d.some)

  drops : Does (down_dropped t a out) (flagged_as true (view a t))
  drops =
      took_refines down q a out t true false 0 0 0 (flagged_as true (view a t))
      (record {
        long = s.room;
        fit = ts.fit;
        shape = ts.shape;
        octal = o;
        small = tsmall;
        short = omega arith;
        drop = refl;
        rfu = refl;
        message = refl;
        next = refl;
        to_down = added_none q.down t.down (down_of a t) td;
        to_up = added_none q.up t.up (up_of a t) fu;
      })
      refl

  slot_room : down_slot r + slot_size ≤ length a
  slot_room = omega (arith, s.room, d.ring.head)

  module _ (h : Header) (n : ℕ) (e : down_read r a ≡ Some (h, n)) where
    abbrev x : Segment
    x = segment h.pbf (payload_of (cut (down_slot r) slot_size a) n)

    can : Arrivable r.ends.conns r.up h
    can = d.packet h n e

    does_data : h.mt ≡ 0 → Does (data_down t (down_slot r) h.id a out) (storing h.id (packet a r) (view a t))
    unfolding data_down open_at
    does_data m = go (controller_side t h.id).opened refl
      where
        go : (b : Bool) → (controller_side t h.id).opened ≡ b
            → Does (pick (controller_side t h.id).opened (data_stored t (down_slot r) h.id a out) (down_dropped t a out)) (storing h.id (packet a r) (view a t))
        go true w =
            subst
            (λ (b : Bool). Does (pick b (data_stored t (down_slot r) h.id a out) (down_dropped t a out)) (pick b (effect a out t ts tsmall o (down_slot r) h.id slot_room (can.place w) (can.room m w) (packet a r)) (flagged_as true (view a t))))
            (sym w)
            (subst (λ (p : Octets). Does (data_stored t (down_slot r) h.id a out) (effect a out t ts tsmall o (down_slot r) h.id slot_room (can.place w) (can.room m w) p)) (sym (first_slot down_at a r.down.head))
            (stored_refines a out t ts tsmall o (down_slot r) h.id slot_room (can.place w) (can.room m w) q td fu))
        go false w =
            subst
            (λ (b : Bool). Does (pick b (data_stored t (down_slot r) h.id a out) (down_dropped t a out))
            (pick b (quiet (bench.with_conns (bench.at h.id (λ k. connection.with_controller (connection.stored (packet a r) k.controller) k) (view a t).conns) (view a t))) (flagged_as true (view a t))))
            (sym w) drops

    does_packet : Does (arrived t (down_slot r) (Some (h, n)) a out) (arriving (meant h x) (packet a r) (view a t))
    unfolding arrived
    does_packet = go (eqb h.mt 0) refl
      where
        asks : Does (pick (eqb h.mt 1) (command_down t (down_slot r) h n a out) (down_dropped t a out)) (pick (eqb h.mt 1) (asked h.id h.oid x (view a t)) (flagged_as true (view a t)))
        asks = one (eqb h.mt 1) refl
          where
            one : (b : Bool) → eqb h.mt 1 ≡ b → Does (pick b (command_down t (down_slot r) h n a out) (down_dropped t a out)) (pick b (asked h.id h.oid x (view a t)) (flagged_as true (view a t)))
            one true w =
                does_command a out t ts tsmall o (down_slot r) h n slot_room (payload_few a (down_slot r) h n e) (read_ranged (cut (down_slot r) slot_size a) h n e) (eqb-true h.mt 1 w) q td fu
                (can.two (eqb-true h.mt 1 w))
            one false w = drops

        go : (b : Bool) → eqb h.mt 0 ≡ b
            → Does (pick b (data_down t (down_slot r) h.id a out) (pick (eqb h.mt 1) (command_down t (down_slot r) h n a out) (down_dropped t a out)))
            (arriving (pick b (datum h.id h.credits x) (control h.mt h.id h.oid x)) (packet a r) (view a t))
        go true w = does_data (eqb-true h.mt 0 w)
        go false w = asks

  pub does_down : (y : Reading) → down_read r a ≡ y → Does (arrived t (down_slot r) y a out) (arriving (meaning (packet a r)) (packet a r) (view a t))
  unfolding arrived
  does_down (Some (h, n)) e =
      subst (λ (z : Meaning). Does (arrived t (down_slot r) (Some (h, n)) a out) (arriving z (packet a r) (view a t))) (sym (packet_read a r h n e)) (does_packet h n e)
  does_down None e = subst (λ (z : Meaning). Does (down_dropped t a out) (arriving z (packet a r) (view a t))) (sym (packet_dropped a r e)) drops

  pub down_done : Does (downed r a out) (act down (view a r))
  down_done =
      subst (λ (e : Effect). Does (downed r a out) e)
      (sym (acts ∙ (λ i. telling (packet_rfu a r i) (arriving (meaning (packet a r)) (packet a r) (view a t)))))
      (tells_refines down q _ _ _ (rfu_octet way.Down (cut (down_slot r) slot_size a) (octal_cut (down_slot r) slot_size o)) (does_down (down_read r a) refl))

-- a down on octets is the model's down
pub down_refines : (q : Puts) (a out : Octets) → Good a → message_size ≤ length out → Along q a → Refines down q a (down_call a out)
unfolding down_call
down_refines q a out g room al =
    let r : Record = decode_of a in
    let s : Sound a r = sound_area a g.long g.judged in
    called_refines down (downed r a out) q a out g room al refl
    (λ t. down_done a out r s (small_decode a g.octal) g.octal (down_facts a r s (ap first (sym (down_tests_law a r s.fit.down.head)) ∙ t)) q al.down al.up)
