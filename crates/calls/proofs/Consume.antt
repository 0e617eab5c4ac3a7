-- consume on octets is the model's consume: the packet, the connection after it, and the echo on a loopback.
-- Assumes nothing.
use Prim.Native.Nat.{ℕ, ◌+◌, ◌≤◌, ◌<◌}
use native.Mathlib.Omega.{arith}
use mathlib.Core.Path.{◌≡◌, refl, sym, ap, ◌∙◌, subst}
use mathlib.Core.Logic.{inl}
use mathlib.Core.Bool.{Bool, true, false}
use mathlib.Core.List.{List, [], ◌∷◌, ◌++◌, append-nil}
use lib.ListN.{length, set}
use lib.Seq.{get_or-set_same, set-set}
use lib.Dec.{eqb}
use Rattle.octets.specs.Octets.{Octets, pick, cut, splice}
use Rattle.octets.specs.Octal.{Octal}
use Rattle.octets.proofs.Octets.{length_splice, length_cut}
use Rattle.octets.proofs.Octal.{octal_cut, octal_splice}
use Rattle.packets.specs.Packet.{payload_of, carrying}
use Rattle.packets.specs.Segments.{Segment, segment, body, flag}
use Rattle.packets.specs.Reassembly.{Run}
use Rattle.packets.proofs.Packet.{octal_carrying}
use Rattle.packets.proofs.Segments.{flag_segment, body_segment}
use Rattle.wires.specs.Meaning.{datum, control, meaning}
use Rattle.wires.proofs.Slots.{first_slot, meaning_junk, meaning_packet}
use Rattle.calls.specs.Kinds.{Header, Reading, Progress, Joined, Ring, Counts, Record}
use Rattle.std.specs.Prelude.{Some, None}
use Rattle.state.specs.Conn.{place_of, closed_counts}
use Rattle.state.specs.Runs.{joined_of, handed_on}
use Rattle.state.proofs.Chains.{on}
use Rattle.state.proofs.Progress.{joined_fits, done_room}
use Rattle.area.specs.Map.{area_size, slot_size, wire_slots, store_slots, message_size, up_at, store_at, controller_run_at}
use Rattle.area.specs.Ring.{trim, slot_packet, packets_in, free_at, took_from, put_into}
use Rattle.area.specs.Runs.{run_area}
use Rattle.area.proofs.Moves.{length_payload, payload_few, length_run, octal_run}
use Rattle.record.specs.Reading.{decode_of}
use Rattle.record.specs.Fit.{Shape}
use Rattle.record.specs.Small.{Small}
use Rattle.record.specs.Plan.{with_up, with_conns, with_controller_run}
use Rattle.record.proofs.Small.{small_decode}
use Rattle.views.specs.View.{run_of, up_of, view}
use Rattle.views.specs.Moves.{Sound, RunJoined, joined, grew}
use Rattle.views.proofs.Runs.{run_joined, run_outside}
use Rattle.views.proofs.Whole.{moves}
use Rattle.model.specs.Connection.{Connection}
use Rattle.model.specs.Connection as connection
use Rattle.model.specs.State as bench
use Rattle.model.specs.Effects.{Effect, consume, taken}
use Rattle.model.specs.Refusals.{first}
use Rattle.model.specs.calls.Consume as model
use Rattle.model.specs.calls.Consume.{is_loop, echoed, segment_in, joined_end, joined_message, joined_flag, consuming}
use Rattle.model.specs.Bench.{act, judged}
use Rattle.calls.specs.Seen.{Puts}
use Rattle.calls.specs.Refines.{Good, Follows, Along, RefinesTo, Refines}
use Rattle.calls.specs.calls.Consume.{controller_side, oldest_at, oldest, oldest_read, consumed_conns, consumed_record, consumed_run, echoed_credits, echoed_slot, consumed_out, consumed_as, joined_by, consumed_by, consumed, consume_call, Consumable}
use Rattle.calls.proofs.Called.{sound_area}
use Rattle.calls.proofs.Refine.{at_const, at_twice, called_refines}
use Rattle.calls.proofs.Handed.{handed_seen}
use Rattle.calls.proofs.Taken.{Added, added_none, added_one, took_refines}
use Rattle.calls.proofs.ConsumeRecord.{consume_tests_law, consume_facts, new, there, between_fit, consume_fit, consume_small, consume_shape}

-- ---- the packet

module _ (a : Octets) (r : Record) (c : ℕ) where
  -- as the model has it
  abbrev packet : Octets
  packet = slot_packet (store_at (place_of c)) a (controller_side r c).store.head

  abbrev rest : List Octets
  rest = packets_in (store_at (place_of c)) store_slots a (took_from store_slots (controller_side r c).store)

  packet_is : trim (oldest r c a) ≡ packet
  packet_is = sym (first_slot (store_at (place_of c)) a (controller_side r c).store.head)

  -- its segment, whatever its MT; one that the reader drops has none
  packet_read : (h : Header) (n : ℕ) → oldest_read r c a ≡ Some (h, n) → segment_in (meaning packet) ≡ segment h.pbf (payload_of (oldest r c a) n) ∷ []
  packet_read h n e =
      let x : Segment = segment h.pbf (payload_of (oldest r c a) n) in
      ap (λ (o : Octets). segment_in (meaning o)) (sym packet_is) ∙ ap segment_in (meaning_packet (oldest r c a) h n e) ∙ either (eqb h.mt 0) x
    where
      either : (b : Bool) (x : Segment) → segment_in (pick b (datum h.id h.credits x) (control h.mt h.id h.oid x)) ≡ x ∷ []
      either true x = refl
      either false x = refl

  packet_dropped : oldest_read r c a ≡ None → segment_in (meaning packet) ≡ []
  packet_dropped e = ap (λ (o : Octets). segment_in (meaning o)) (sym packet_is) ∙ ap segment_in (meaning_junk (oldest r c a) e)

-- ---- the connection after it

module _ (a : Octets) (r : Record) (c : ℕ) (s : Sound a r) (p : Consumable r c) where
  abbrev before : Progress
  before = (controller_side r c).run

  abbrev base : ℕ
  base = controller_run_at (place_of c)

  -- its packet taken and what is then owed, and the run still as it was
  abbrev between : Record
  between = consumed_conns r c before

  shaped : (next : Progress) → Shape (consumed_conns r c next)
  shaped next = let k = consume_shape r c p s.shape next in record { pairs = k.pairs; conns = k.conns }

  between_sound : Sound a between
  between_sound = record { room = s.room; fit = between_fit r c p s.shape before p.run s.fit; shape = shaped before }

  -- the model's connection after it, by the segments of the packet
  abbrev becomes : List Segment → Connection → Connection
  becomes xs k = connection.with_controller (echoed (is_loop c) (joined_end xs (rest a r c) k.controller)) k

  pub took_view : view a between ≡ bench.with_conns (bench.at c (becomes []) (view a r).conns) (view a r)
  took_view =
      (moves a r s).counts_set c (new r c p s.shape before) p.place
      ∙ (λ i. bench.with_conns (at_const c (becomes []) (view a r).conns i) (view a r))

  pub joined_view : (x : Segment) → view (run_area message_size base a before (body x)) (consumed_conns r c (joined message_size before x))
      ≡ bench.with_conns (bench.at c (becomes (x ∷ [])) (view a r).conns) (view a r)
  joined_view x =
      let l : List Counts = r.ends.conns in
      let at : ℕ = place_of c in
      let own = get_or-set_same l at (new r c p s.shape before) closed_counts (there r c p s.shape before) in
      sym
      ((λ i.
      view (run_area message_size base a (own i).controller.run (body x))
      (with_conns
      (set between.ends.conns at
      (record { host = (own i).host; controller = with_controller_run (joined message_size (own i).controller.run x) (own i).controller }))
      r))
      ∙ (λ i.
      view (run_area message_size base a before (body x))
      (with_conns (set-set l at (new r c p s.shape before) (new r c p s.shape (joined message_size before x)) i) r)))
      ∙ (moves a between between_sound).join_controller c x p.place
      ∙ (λ i. bench.with_conns (bench.at c (λ k. connection.with_controller (grew x k.controller) k) (took_view i).conns) (took_view i))
      ∙ (λ i. bench.with_conns (at_twice c (becomes []) (λ k. connection.with_controller (grew x k.controller) k) (view a r).conns i) (view a r))

-- ---- on a loopback it goes up

echo_view : (b : Octets) (n : Record) → Sound b n → (from credits : ℕ) → from + slot_size ≤ length b → (t : Bool) → (t ≡ true → n.up.count < wire_slots)
    → view (pick t (splice b (free_at up_at wire_slots n.up) (carrying credits (cut from slot_size b))) b) (with_up (pick t (put_into n.up) n.up) n)
    ≡ bench.with_up (up_of b n ++ pick t (carrying credits (trim (cut from slot_size b)) ∷ []) []) (view b n)
echo_view b n s from credits room true free = (moves b n s).echo_up from credits room (free refl)
echo_view b n s from credits room false free = λ i. bench.with_up (sym (append-nil (up_of b n)) i) (view b n)

echo_added : (q : ℕ) (k : Ring) (w : List Octets) (x : Octets) (t : Bool) → Follows q k
    → Added q (pick t 1 0) (pick t (put_into k) k) (w ++ pick t (x ∷ []) []) (pick t (x ∷ []) [])
echo_added q k w x true f = added_one q k w x f
echo_added q k w x false f = record { follows = omega (arith, f); before = w; split = refl; many = refl }

-- ---- a consume that is taken

module _ (a out : Octets) (r : Record) (c : ℕ) (s : Sound a r) (small : Small r) (p : Consumable r c) (room : message_size ≤ length out) (o : Octal a) where
  abbrev so_far : Run
  so_far = run_of (base a r c s p) a (before a r c s p)

  -- what is to be known of the run after it: j, the length len of a message that is done, the area b with it, from the packet's segments
  record Joins (xs : List Segment) (j : Joined) (len : ℕ) (b : Octets) : Type 0 where
    meant : segment_in (meaning (packet a r c)) ≡ xs
    short : j.next.len ≤ message_size
    long : area_size ≤ length b
    octal : Octal b
    kept : oldest r c b ≡ oldest r c a
    next : view b (consumed_conns r c j.next) ≡ bench.with_conns (bench.at c (becomes a r c s p xs) (view a r).conns) (view a r)
    dropped : j.dropped ≡ joined_flag so_far xs
    few : j.done ≡ true → len ≤ message_size
    message : handed_on j.done (cut (base a r c s p) len b) ≡ joined_message so_far xs

  module _ (xs : List Segment) (j : Joined) (len : ℕ) (b : Octets) (k : Joins xs j len b) where
    abbrev does : Effect
    does = model.consumed_as c xs (packet a r c) (rest a r c) (view a r)

    acts : act (consume c) (view a r) ≡ does
    acts =
        (λ i. consuming c ((moves a r s).took_store c p.place p.some i) (view a r))
        ∙ ap (λ (ys : List Segment). model.consumed_as c ys (packet a r c) (rest a r c) (view a r)) k.meant

    sound : Sound b (consumed_conns r c j.next)
    sound = record { room = k.long; fit = between_fit r c p s.shape j.next k.short s.fit; shape = shaped a r c s p j.next }

    slot_room : oldest_at r c + slot_size ≤ length b
    slot_room = omega (arith, k.long, p.place, p.store.head)

    next_view : view (echoed_slot r c b) (consumed_record r c j.next) ≡ does.next
    next_view =
        echo_view b (consumed_conns r c j.next) sound (oldest_at r c) (echoed_credits r c) slot_room (is_loop c) p.free
        ∙ (λ i. bench.with_up ((k.next i).up ++ pick (is_loop c) (carrying (echoed_credits r c) ((ap trim k.kept ∙ packet_is a r c) i) ∷ []) []) (k.next i))

    echoed_long : area_size ≤ length (echoed_slot r c b)
    echoed_long =
        on (λ (x : Octets). area_size ≤ length x) (is_loop c) (λ _. omega (arith, k.long, length_splice b (free_at up_at wire_slots r.up) (carrying (echoed_credits r c) (oldest r c b)))) (λ _. k.long)

    echoed_octal : Octal (echoed_slot r c b)
    echoed_octal =
        on Octal (is_loop c)
        (λ _. octal_splice (free_at up_at wire_slots r.up) k.octal (octal_carrying (echoed_credits r c) (oldest r c b) (octal_cut (oldest_at r c) slot_size k.octal))) (λ _. k.octal)

    message_long : j.done ≡ true → length (cut (base a r c s p) len b) ≡ len
    message_long d = length_cut (base a r c s p) len b (omega (arith, k.long, k.few d, p.place))

    done : (q : Puts) → Follows q.down r.down → Follows q.up r.up
        → RefinesTo (consume c) q (consumed_as r c j len b out) (judged taken (consume c) (view a r))
    done q down up =
        subst (λ (e : Effect). RefinesTo (consume c) q (consumed_as r c j len b out) (record { answer = taken; effect = e })) (sym acts)
        (took_refines (consume c) q (echoed_slot r c b) (consumed_out c j len b out) (consumed_record r c j.next) j.dropped j.done (pick j.done len 0) 0 (pick (is_loop c) 1 0) does
        (record {
          long = echoed_long;
          fit = consume_fit r c p s.shape j.next k.short s.fit;
          shape = consume_shape r c p s.shape j.next;
          octal = echoed_octal;
          small = consume_small r c p s.shape j.next small;
          short = on (λ (n : ℕ). n < 65536) j.done (λ d. omega (arith, k.few d)) (λ _. omega arith);
          drop = k.dropped;
          rfu = refl;
          message = handed_seen j.done (cut (base a r c s p) len b) out len message_long (λ d. omega (arith, k.few d, room)) ∙ k.message;
          next = next_view;
          to_down = added_none q.down r.down (view a r).down down;
          to_up = echo_added q.up r.up (up_of a r) (carrying (echoed_credits r c) (packet a r c)) (is_loop c) up;
        })
        refl)

  -- of a packet that was read
  module _ (h : Header) (n : ℕ) (e : oldest_read r c a ≡ Some (h, n)) where
    abbrev x : Segment
    x = segment h.pbf (payload_of (oldest r c a) n)

    is_body : body x ≡ payload_of (oldest r c a) n
    is_body = body_segment h.pbf (payload_of (oldest r c a) n)

    is_long : length (body x) ≡ n
    is_long = ap length is_body ∙ length_payload a (oldest_at r c) n (payload_few a (oldest_at r c) h n e) (omega (arith, s.room, p.place, p.store.head))

    same : joined_of message_size (before a r c s p) (flag x) (length (body x)) ≡ joined_by r c (Some (h, n))
    same i = joined_of message_size (before a r c s p) (flag_segment h.pbf (payload_of (oldest r c a) n) i) (is_long i)

    joins : RunJoined message_size (base a r c s p) a (before a r c s p) x (run_area message_size (base a r c s p) a (before a r c s p) (body x))
        (joined_of message_size (before a r c s p) (flag x) (length (body x)))
    joins = run_joined message_size (base a r c s p) a (before a r c s p) x p.run (omega (arith, s.room, p.place))

    read_joins : Joins (x ∷ []) (joined_by r c (Some (h, n))) ((before a r c s p).len + n) (consumed_run r c n a)
    read_joins =
        record {
          meant = packet_read a r c h n e;
          short = joined_fits message_size (before a r c s p) h.pbf n;
          long = omega (arith, s.room, length_run message_size (base a r c s p) a (before a r c s p) (payload_of (oldest r c a) n));
          octal = octal_run message_size (base a r c s p) a (before a r c s p) (payload_of (oldest r c a) n) o (octal_cut 3 n (octal_cut (oldest_at r c) slot_size o));
          kept = run_outside message_size (base a r c s p) a (before a r c s p) (payload_of (oldest r c a) n) (oldest_at r c) slot_size (inl (omega (arith, p.place, p.store.head)));
          next =
              sym (λ i. view (run_area message_size (base a r c s p) a (before a r c s p) (is_body i)) (consumed_conns r c (same i).next))
              ∙ joined_view a r c s p x;
          dropped = sym (ap (λ (j : Joined). j.dropped) same) ∙ joins.drop;
          few = done_room message_size (before a r c s p) h.pbf n;
          message =
              sym
              (joins.message
              ∙ (λ i. handed_on (same i).done (cut (base a r c s p) ((before a r c s p).len + is_long i) (run_area message_size (base a r c s p) a (before a r c s p) (is_body i)))));
        }

  -- of one that was dropped
  dropped_joins : oldest_read r c a ≡ None → Joins [] (joined_by r c None) 0 a
  dropped_joins e =
      record {
        meant = packet_dropped a r c e;
        short = p.run;
        long = s.room;
        octal = o;
        kept = refl;
        next = took_view a r c s p;
        dropped = refl;
        few = λ _. omega arith;
        message = refl;
      }

  by_reading : (q : Puts) → Follows q.down r.down → Follows q.up r.up → (g : Reading) → oldest_read r c a ≡ g
      → RefinesTo (consume c) q (consumed_by r c g a out) (judged taken (consume c) (view a r))
  by_reading q down up (Some (h, n)) e =
      done (x h n e ∷ []) (joined_by r c (Some (h, n))) ((before a r c s p).len + n) (consumed_run r c n a) (read_joins h n e) q down up
  by_reading q down up None e = done [] (joined_by r c None) 0 a (dropped_joins e) q down up

-- a consume on octets is the model's consume
pub consume_refines : (c : ℕ) (q : Puts) (a out : Octets) → Good a → message_size ≤ length out → Along q a → Refines (consume c) q a (consume_call a out c)
unfolding consume_call
consume_refines c q a out g room al =
    let r : Record = decode_of a in
    let s : Sound a r = sound_area a g.long g.judged in
    called_refines (consume c) (consumed r c a out) q a out g room al refl
    (λ t.
    by_reading a out r c s (small_decode a g.octal) (consume_facts r c s.fit (ap first (sym (consume_tests_law a r c)) ∙ t)) room g.octal q al.down al.up
    (oldest_read r c a) refl)
