-- push: the tests of its rules on numbers, what is known where none applies, and that it is the model's push.
-- Assumes nothing.
use Prim.Native.Nat.{ℕ, ◌+◌, ◌≤◌, ◌<◌}
use mathlib.Core.Path.{◌≡◌, refl, sym, ap, ◌∙◌, subst}
use mathlib.Core.Bool.{not, ◌&&◌}
use mathlib.Core.List.{List, [], ◌∷◌, ◌++◌}
use native.Mathlib.Omega.{arith}
use lib.ListN.{length, length-set}
use lib.Dec.{eqb, leb, ltb}
use borrow.Author.Tests.{leb-false, ltb-true, not-false}
use Rattle.octets.specs.Octets.{Octets, cut}
use Rattle.octets.specs.Octal.{Octal}
use Rattle.octets.proofs.Octets.{length_splice}
use Rattle.octets.proofs.Octal.{octal_cut, octal_splice}
use Rattle.packets.specs.Segments.{Segment, body, flag, marked}
use Rattle.packets.specs.Headers.{data_header}
use Rattle.packets.proofs.Packet.{octal_packet}
use Rattle.packets.proofs.Segments.{body_segment}
use Rattle.calls.specs.Kinds.{Hand, Counts, Record}
use Rattle.state.specs.Conn as conn
use Rattle.state.specs.Conn.{place_of, counts_of, flows, hand_after}
use Rattle.state.proofs.Chains.{on}
use Rattle.dh.specs.Host.{is_closing}
use Rattle.dh.specs.Sending.{pushed_side}
use Rattle.area.specs.Map.{area_size, message_size, wire_slots, places, down_at, hand_at}
use Rattle.area.specs.Ring.{free_at}
use Rattle.area.proofs.Moves.{segment_short}
use Rattle.record.specs.Reading.{decode_of}
use Rattle.record.specs.Fit.{Shape, Fit, FitCounts, FitHand}
use Rattle.record.specs.Small.{SmallCounts, Small}
use Rattle.record.specs.Plan.{with_conns}
use Rattle.record.proofs.Small.{small_decode}
use Rattle.record.proofs.Conns.{conns_set}
use Rattle.views.specs.View.{hand_of, down_of, view}
use Rattle.views.specs.Moves.{Sound}
use Rattle.views.proofs.Whole.{moves}
use Rattle.views.proofs.Tests.{down_full_one, hand_nil}
use Rattle.model.specs.Connection.{Connection}
use Rattle.model.specs.Connection as connection
use Rattle.model.specs.State as bench
use Rattle.model.specs.Effects.{Effect, push, taken}
use Rattle.model.specs.Refusals.{Rule, rule, first, no_conn}
use Rattle.model.specs.calls.Push.{pushing, push_rules}
use Rattle.model.specs.Bench.{act, judged}
use Rattle.model.proofs.Needs.{need}
use Rattle.calls.specs.Outcome.{lowest}
use Rattle.calls.specs.Seen.{Puts}
use Rattle.calls.specs.Refines.{Good, Follows, Along, RefinesTo, Refines}
use Rattle.calls.specs.calls.Push.{host_side, pushed_record, pushed_segment, pushed_packet, pushed_slot, pushed, push_call, Pushable}
use Rattle.calls.proofs.Rules.{first_taken}
use Rattle.calls.proofs.Called.{sound_area}
use Rattle.calls.proofs.Refine.{at_const, called_refines}
use Rattle.calls.proofs.Taken.{added_none, added_one, took_refines}

-- ---- the rules on numbers

abbrev pub push_tests : Record → ℕ → List Rule
push_tests r c =
    rule 3 (leb places (place_of c))
    ∷ rule 4 (leb wire_slots r.down.count)
    ∷ rule 6 (not (host_side r c).opened)
    ∷ rule 8 (not (host_side r c).hand.full)
    ∷ rule 9 (flows (host_side r c).grant && eqb (host_side r c).held 0)
    ∷ rule 10 (is_closing r.ends.host.pending)
    ∷ []

pub push_tests_law : (a : Octets) (r : Record) (c : ℕ) → push_rules c (view a r) ≡ push_tests r c
push_tests_law a r c i =
    rule 3 (no_conn c)
    ∷ rule 4 (down_full_one a r i)
    ∷ rule 6 (not (host_side r c).opened)
    ∷ rule 8 (hand_nil (hand_at (place_of c)) (host_side r c).payload a (host_side r c).hand i)
    ∷ rule 9 (flows (host_side r c).grant && eqb (host_side r c).held 0)
    ∷ rule 10 (is_closing r.ends.host.pending)
    ∷ []

-- ---- what is known where none applies

pub push_facts : (r : Record) (c : ℕ) → Fit r → first (push_tests r c) ≡ taken → Pushable r c
push_facts r c f t =
    let place : place_of c < places = leb-false places (place_of c) (need 3 (push_tests r c) t) in
    let k = f.conns (place_of c) place in
    let opened = not-false (host_side r c).opened (need 6 (push_tests r c) t) in
    record {
      place = place;
      free = leb-false wire_slots r.down.count (need 4 (push_tests r c) t);
      ring = f.down;
      opened = opened;
      full = not-false (host_side r c).hand.full (need 8 (push_tests r c) t);
      payload = k.payload opened;
      hand = k.hand;
    }

pub push_able : (a : Octets) (r : Record) (c : ℕ) → Fit r → 0 ≡ lowest (push_rules c (view a r)) → Pushable r c
push_able a r c f e = push_facts r c f (first_taken (push_tests r c) refl (e ∙ ap lowest (push_tests_law a r c)))

-- ---- the record after it is one that row 1 lets pass, of octets

pub hand_after_fits : (size : ℕ) (h : Hand) → FitHand h → FitHand (hand_after size h)
hand_after_fits size h f =
    on FitHand (ltb (h.at + size) h.len) (λ e. record { len = f.len; at = omega (arith, ltb-true (h.at + size) h.len e) }) (λ _. record { len = omega arith; at = omega arith })

module _ (r : Record) (c : ℕ) (p : Pushable r c) (shape : Shape r) where
  abbrev new : Counts
  new = record { host = pushed_side (host_side r c); controller = (counts_of r.ends.conns c).controller }

  there : place_of c < length r.ends.conns
  there = omega (arith, p.place, shape.conns)

  push_fit : Fit r → Fit (pushed_record r c)
  push_fit f =
      let k = f.conns (place_of c) p.place in
      record {
        down = record { head = f.down.head; count = omega (arith, p.free) };
        up = f.up;
        own = f.own;
        conns =
            conns_set FitCounts r.ends.conns (place_of c) new there
            (record {
              payload = k.payload;
              hand = hand_after_fits (host_side r c).payload (host_side r c).hand k.hand;
              host_run_law = k.host_run_law;
              store = k.store;
              controller_run_law = k.controller_run_law;
            })
            f.conns;
      }

  push_small : Small r → Small (pushed_record r c)
  push_small s =
      let k = s.conns (place_of c) p.place in
      record {
        own = s.own;
        conns =
            conns_set SmallCounts r.ends.conns (place_of c) new there
            (record {
              payload = k.payload;
              host_grant_law = k.host_grant_law;
              held = on (λ (n : ℕ). n ≤ 255) (flows (host_side r c).grant) (λ _. omega (arith, k.held)) (λ _. k.held);
              grant = k.grant;
              owed = k.owed;
            })
            s.conns;
      }

  push_shape : Shape (pushed_record r c)
  push_shape = record { pairs = shape.pairs; conns = length-set r.ends.conns (place_of c) new ∙ shape.conns }

-- ---- a push that is taken

module _ (a out : Octets) (r : Record) (c : ℕ) (s : Sound a r) (small : Small r) (p : Pushable r c) where
  moved_long : area_size ≤ length (pushed_slot r c a)
  moved_long = omega (arith, s.room, length_splice a (free_at down_at wire_slots r.down) (pushed_packet r c a))

  short : length (body (pushed_segment r c a)) ≤ 255
  short =
      omega (
        arith,
        segment_short (host_side r c).payload (cut (hand_at (place_of c)) (host_side r c).hand.len a) (host_side r c).hand.at,
        (small.conns (place_of c) p.place).payload,
      )

  fit : Fit (pushed_record r c)
  fit = push_fit r c p s.shape s.fit

  shape : Shape (pushed_record r c)
  shape = push_shape r c p s.shape

  -- first the connection's numbers, then the packet
  abbrev between : Record
  between = with_conns (conn.with_host r.ends.conns c (pushed_side (host_side r c))) r

  between_sound : Sound a between
  between_sound =
      record {
        room = s.room;
        fit = record { down = s.fit.down; up = s.fit.up; own = fit.own; conns = fit.conns };
        shape = record { pairs = shape.pairs; conns = shape.conns };
      }

  abbrev rest : List Segment
  rest = hand_of (hand_at (place_of c)) (host_side r c).payload a (hand_after (host_side r c).payload (host_side r c).hand)

  gone : ((view a r).conns c).host.hand ≡ pushed_segment r c a ∷ rest
  gone = (moves a r s).gone_hand c p.place p.full p.payload

  abbrev becomes : Connection → Connection
  becomes k = connection.with_host (connection.pushed rest k.host) k

  next_between : view a between ≡ bench.with_conns (bench.at c becomes (view a r).conns) (view a r)
  next_between =
      (moves a r s).counts_set c (new r c p s.shape) p.place
      ∙ (λ i. bench.with_conns (at_const c becomes (view a r).conns i) (view a r))

  -- what the model does
  abbrev does : Effect
  does = pushing c (pushed_segment r c a ∷ rest) (view a r)

  acts : act (push c) (view a r) ≡ does
  acts i = pushing c (gone i) (view a r)

  next_view : view (pushed_slot r c a) (pushed_record r c) ≡ does.next
  next_view =
      (moves a between between_sound).put_down (marked (data_header c 0) (flag (pushed_segment r c a))) (body (pushed_segment r c a)) short p.free
      ∙ (λ i. bench.with_down (down_of a r ++ (pushed_packet r c a ∷ [])) (next_between i))

  octets_after : Octal a → Octal (pushed_slot r c a)
  octets_after o =
      let message : Octets = cut (hand_at (place_of c)) (host_side r c).hand.len a in
      let part : Octal (body (pushed_segment r c a)) =
      subst Octal (sym (body_segment (ltb ((host_side r c).hand.at + (host_side r c).payload) (length message)) (cut (host_side r c).hand.at (host_side r c).payload message)))
      (octal_cut (host_side r c).hand.at (host_side r c).payload (octal_cut (hand_at (place_of c)) (host_side r c).hand.len o))
      in
      octal_splice (free_at down_at wire_slots r.down) o (octal_packet (marked (data_header c 0) (flag (pushed_segment r c a))) (body (pushed_segment r c a)) short part)

  done : (q : Puts) → Follows q.down r.down → Follows q.up r.up → Octal a → RefinesTo (push c) q (pushed r c a out) (judged taken (push c) (view a r))
  done q down up o =
      subst (λ (e : Effect). RefinesTo (push c) q (pushed r c a out) (record { answer = taken; effect = e })) (sym acts)
      (took_refines (push c) q (pushed_slot r c a) out (pushed_record r c) _ _ 0 1 0 does
      (record {
        long = moved_long;
        fit = fit;
        shape = shape;
        octal = octets_after o;
        small = push_small r c p s.shape small;
        short = omega arith;
        drop = refl;
        rfu = refl;
        message = refl;
        next = next_view;
        to_down = added_one q.down r.down (down_of a r) (pushed_packet r c a) down;
        to_up = added_none q.up r.up (view a r).up up;
      })
      refl)

-- a push on octets is the model's push
pub push_refines : (c : ℕ) (q : Puts) (a out : Octets) → Good a → message_size ≤ length out → Along q a → Refines (push c) q a (push_call a out c)
unfolding push_call
push_refines c q a out g room al =
    let r : Record = decode_of a in
    let s : Sound a r = sound_area a g.long g.judged in
    called_refines (push c) (pushed r c a out) q a out g room al refl
    (λ t. done a out r c s (small_decode a g.octal) (push_facts r c s.fit (ap first (sym (push_tests_law a r c)) ∙ t)) q al.down al.up g.octal)
