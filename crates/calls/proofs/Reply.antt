-- reply: the tests of its rules on numbers, what is known where none applies, and that it is the model's reply.
-- Assumes nothing.
use Prim.Native.Nat.{◌+◌, ◌≤◌, ◌<◌}
use mathlib.Core.Path.{◌≡◌, refl, sym, ap, ◌∙◌, subst}
use mathlib.Core.Bool.{false, not}
use mathlib.Core.List.{List, [], ◌∷◌, ◌++◌}
use native.Mathlib.Omega.{arith}
use lib.ListN.{length, length-set}
use lib.Dec.{leb, ltb}
use borrow.Author.Tests.{leb-false, not-false}
use Rattle.octets.specs.Octets.{Octets, cut}
use Rattle.octets.specs.Octal.{Octal}
use Rattle.octets.proofs.Octets.{length_splice}
use Rattle.octets.proofs.Octal.{octal_cut, octal_splice}
use Rattle.packets.specs.Segments.{Segment, body, flag, marked}
use Rattle.packets.specs.Headers.{data_header}
use Rattle.packets.proofs.Packet.{octal_packet}
use Rattle.packets.proofs.Segments.{body_segment}
use Rattle.calls.specs.Kinds.{Header, Counts, Record}
use Rattle.state.specs.Conn.{place_of, counts_of, hand_after, carried_by, paid_side}
use Rattle.area.specs.Map.{message_size, payload_size, wire_slots, places, up_at, endpoint_at}
use Rattle.area.specs.Ring.{free_at}
use Rattle.area.proofs.Moves.{segment_short}
use Rattle.record.specs.Reading.{decode_of}
use Rattle.record.specs.Fit.{Shape, Each, Fit, FitCounts}
use Rattle.record.specs.Small.{SmallCounts, Small}
use Rattle.record.specs.Plan.{with_endpoint}
use Rattle.record.proofs.Conns.{conns_set}
use Rattle.record.proofs.Small.{small_decode}
use Rattle.views.specs.View.{hand_of, up_of, view}
use Rattle.views.specs.Moves.{Sound}
use Rattle.views.proofs.Whole.{moves}
use Rattle.views.proofs.Others.{endpoint_set}
use Rattle.views.proofs.Tests.{up_full_one, hand_nil}
use Rattle.model.specs.Connection.{Connection, paid, spoken}
use Rattle.model.specs.Connection as connection
use Rattle.model.specs.State as bench
use Rattle.model.specs.Effects.{Effect, reply, taken}
use Rattle.model.specs.Refusals.{Rule, rule, first}
use Rattle.model.specs.calls.Reply.{replying, reply_rules}
use Rattle.model.specs.Bench.{act, judged}
use Rattle.model.proofs.Order.{need}
use Rattle.calls.specs.Seen.{Puts}
use Rattle.calls.specs.Refines.{Good, Follows, Along, RefinesTo, Refines}
use Rattle.calls.specs.calls.Consume.{controller_side}
use Rattle.calls.specs.calls.Reply.{endpoint_hand, replied_conns, replied_record, replied_segment, replied_packet, replied_slot, replied, reply_call, Replyable}
use Rattle.calls.proofs.Called.{sound_area}
use Rattle.calls.proofs.Refine.{at_const, at_twice, called_refines}
use Rattle.calls.proofs.Taken.{added_none, added_one, took_refines}
use Rattle.calls.proofs.Push.{hand_after_fits}

-- ---- the rules on numbers

abbrev pub reply_tests : Record → List Rule
reply_tests r = rule 4 (leb wire_slots r.up.count) ∷ rule 8 (not (endpoint_hand r).full) ∷ []

pub reply_tests_law : (a : Octets) (r : Record) → reply_rules (view a r) ≡ reply_tests r
reply_tests_law a r i = rule 4 (up_full_one a r i) ∷ rule 8 (hand_nil endpoint_at payload_size a (endpoint_hand r) i) ∷ []

-- ---- what is known where none applies

pub reply_facts : (r : Record) → Fit r → first (reply_tests r) ≡ taken → Replyable r
reply_facts r f t =
    record {
      free = leb-false wire_slots r.up.count (need 4 (reply_tests r) t);
      ring = f.up;
      full = not-false (endpoint_hand r).full (need 8 (reply_tests r) t);
      hand = f.own.endpoint;
    }

-- connection 0 has a place
zero_place : place_of 0 < places
unfolding place_of
zero_place = omega arith

-- ---- the record after it is one that row 1 lets pass, of octets

module _ (r : Record) (p : Replyable r) (shape : Shape r) where
  abbrev new : Counts
  new = record { host = (counts_of r.ends.conns 0).host; controller = paid_side (controller_side r 0) }

  there : place_of 0 < length r.ends.conns
  there = omega (arith, zero_place, shape.conns)

  -- no more is owed than was
  conns_fit : Fit r → Each FitCounts (replied_conns r).ends.conns
  conns_fit f =
      let k = f.conns (place_of 0) zero_place in
      conns_set FitCounts r.ends.conns (place_of 0) new there
      (record {
        payload = k.payload;
        hand = k.hand;
        host_run_law = k.host_run_law;
        store = k.store;
        controller_run_law = k.controller_run_law;
      })
      f.conns

  reply_fit : Fit r → Fit (replied_record r)
  reply_fit f =
      let o = f.own in
      record {
        down = f.down;
        up = record { head = f.up.head; count = omega (arith, p.free) };
        own =
            record {
              profile = o.profile;
              size = o.size;
              hearing = o.hearing;
              controller = o.controller;
              asking = o.asking;
              endpoint = hand_after_fits payload_size (endpoint_hand r) o.endpoint;
            };
        conns = conns_fit f;
      }

  reply_small : Small r → Small (replied_record r)
  reply_small s =
      let k = s.conns (place_of 0) zero_place in
      record {
        own = s.own;
        conns =
            conns_set SmallCounts r.ends.conns (place_of 0) new there
            (record { payload = k.payload; host_grant_law = k.host_grant_law; held = k.held; grant = k.grant; owed = omega (arith, k.owed) })
            s.conns;
      }

  reply_shape : Shape (replied_record r)
  reply_shape = record { pairs = shape.pairs; conns = length-set r.ends.conns (place_of 0) new ∙ shape.conns }

-- ---- a reply that is taken

module _ (a out : Octets) (r : Record) (s : Sound a r) (small : Small r) (p : Replyable r) where
  abbrev message : Octets
  message = cut endpoint_at (endpoint_hand r).len a

  short : length (body (replied_segment r a)) ≤ payload_size
  short = segment_short payload_size message (endpoint_hand r).at

  -- first what is owed, then the endpoint's numbers, then the packet
  abbrev between : Record
  between = with_endpoint (hand_after payload_size (endpoint_hand r)) (replied_conns r)

  between_sound : Sound a between
  between_sound =
      let f = reply_fit r p s.shape s.fit in
      let k = reply_shape r p s.shape in
      record {
        room = s.room;
        fit = record { down = s.fit.down; up = s.fit.up; own = f.own; conns = f.conns };
        shape = record { pairs = k.pairs; conns = k.conns };
      }

  abbrev pays : Connection → Connection
  pays k = connection.with_controller (paid k.controller) k

  paid_view : view a (replied_conns r) ≡ bench.with_conns (bench.at 0 pays (view a r).conns) (view a r)
  paid_view =
      (moves a r s).counts_set 0 (new r p s.shape) zero_place
      ∙ (λ i. bench.with_conns (at_const 0 pays (view a r).conns i) (view a r))

  abbrev header : Header
  header = marked (data_header 0 (carried_by (controller_side r 0))) (flag (replied_segment r a))

  abbrev rest : List Segment
  rest = hand_of endpoint_at payload_size a (hand_after payload_size (endpoint_hand r))

  acts : act reply (view a r) ≡ replying (replied_segment r a ∷ rest) (view a r)
  acts i = replying ((moves a r s).gone_endpoint p.full i) (view a r)

  next_view : view (replied_slot r a) (replied_record r) ≡ (replying (replied_segment r a ∷ rest) (view a r)).next
  next_view =
      let speaks : Connection → Connection = λ k. connection.with_controller (spoken rest k.controller) k in
      (moves a between between_sound).put_up header (body (replied_segment r a)) short p.free
      ∙ (λ i. bench.with_up (up_of a r ++ (replied_packet r a ∷ []))
      ((endpoint_set a (replied_conns r) (hand_after payload_size (endpoint_hand r))
      ∙ (λ i. bench.with_conns (bench.at 0 speaks (paid_view i).conns) (paid_view i))
      ∙ (λ i. bench.with_conns (at_twice 0 pays speaks (view a r).conns i) (view a r))) i))

  octets_after : Octal a → Octal (replied_slot r a)
  octets_after o =
      let part : Octal (body (replied_segment r a)) =
      subst Octal (sym (body_segment (ltb ((endpoint_hand r).at + payload_size) (length message)) (cut (endpoint_hand r).at payload_size message)))
      (octal_cut (endpoint_hand r).at payload_size (octal_cut endpoint_at (endpoint_hand r).len o))
      in
      octal_splice (free_at up_at wire_slots r.up) o (octal_packet header (body (replied_segment r a)) short part)

  done : (q : Puts) → Follows q.down r.down → Follows q.up r.up → Octal a → RefinesTo reply q (replied r a out) (judged taken reply (view a r))
  done q down up o =
      subst (λ (e : Effect). RefinesTo reply q (replied r a out) (record { answer = taken; effect = e })) (sym acts)
      (took_refines reply q (replied_slot r a) out (replied_record r) false false 0 0 1 (replying (replied_segment r a ∷ rest) (view a r))
      (record {
        long = omega (arith, s.room, length_splice a (free_at up_at wire_slots r.up) (replied_packet r a));
        fit = reply_fit r p s.shape s.fit;
        shape = reply_shape r p s.shape;
        octal = octets_after o;
        small = reply_small r p s.shape small;
        short = omega arith;
        drop = refl;
        rfu = refl;
        message = refl;
        next = next_view;
        to_down = added_none q.down r.down (view a r).down down;
        to_up = added_one q.up r.up (up_of a r) (replied_packet r a) up;
      })
      refl)

-- a reply on octets is the model's reply
pub reply_refines : (q : Puts) (a out : Octets) → Good a → message_size ≤ length out → Along q a → Refines reply q a (reply_call a out)
unfolding reply_call
reply_refines q a out g room al =
    let r : Record = decode_of a in
    let s : Sound a r = sound_area a g.long g.judged in
    called_refines reply (replied r a out) q a out g room al refl
    (λ t. done a out r s (small_decode a g.octal) (reply_facts r s.fit (ap first (sym (reply_tests_law a r)) ∙ t)) q al.down al.up g.octal)
