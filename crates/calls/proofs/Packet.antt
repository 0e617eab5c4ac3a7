-- The reader of packets: what is known where none of its rules applies, and that the packets seen of a call are those that it hands out.
-- Assumes nothing.
use Prim.Native.Nat.{ℕ, zero, suc, ◌+◌, ◌%◌, ◌≤◌, ◌<◌}
use native.Mathlib.Omega.{arith}
use mathlib.Core.Path.{◌≡◌, refl, sym, ap, ◌∙◌}
use mathlib.Core.Bool.{Bool, true, false}
use mathlib.Core.List.{List, [], ◌∷◌, ◌++◌}
use lib.ListN.{length, length-take}
use lib.Dec.{eqb}
use borrow.Author.Tests.{leb-false, le-ltb, lt-leb}
use Rattle.octets.specs.Octets.{Octets, pick, cut, splice}
use Rattle.octets.proofs.Octets.{cut_same}
use Rattle.calls.specs.Kinds.{Record}
use Rattle.area.specs.Map.{slot_size, wire_slots, wire_size, area_size, message_size, down_at, up_at}
use Rattle.area.specs.Ring.{trim, slot_packet, tab, packets_from}
use Rattle.record.specs.Reading.{decode_of}
use Rattle.record.specs.Fit.{Fit, FitRing}
use Rattle.model.specs.Effects.{taken}
use Rattle.model.specs.Refusals.{first}
use Rattle.model.proofs.Order.{need}
use Rattle.calls.specs.Outcome.{lowest}
use Rattle.calls.specs.Seen.{Puts}
use Rattle.calls.specs.Refines.{Good, Follows, Along}
use Rattle.calls.specs.Packet.{wire_ring, wire_at, slot_back, packet_back, packet_rules, shown_packet, packet_call, Showable, handed_by, last_packets}
use Rattle.calls.proofs.Rules.{first_taken}
use Rattle.calls.proofs.Called.{enters, called_own}
use Rattle.calls.proofs.Words.{word_handed, word_length}

-- ---- a wire by its number

pub wire_fits : (r : Record) (wire : ℕ) → Fit r → FitRing wire_slots (wire_ring r wire)
unfolding wire_ring
wire_fits r wire f = go (eqb wire 0)
  where
    go : (b : Bool) → FitRing wire_slots (pick b r.down r.up)
    go true = f.down
    go false = f.up

pub wire_room : (wire : ℕ) → wire_at wire + wire_size ≤ area_size
unfolding wire_at
wire_room wire = go (eqb wire 0)
  where
    go : (b : Bool) → pick b down_at up_at + wire_size ≤ area_size
    go true = omega arith
    go false = omega arith

-- ---- a packet

pub length_slot : (base : ℕ) (a : Octets) (i : ℕ) → length (slot_packet base a i) ≤ slot_size
unfolding slot_packet trim cut
length_slot base a i = simp (length-take, length-take) (omega arith)

-- ---- what is known where no rule applies

pub packet_able : (r : Record) (wire back : ℕ) → Fit r → 0 ≡ lowest (packet_rules r wire back) → Showable r wire back
packet_able r wire back f e =
    let t = first_taken (packet_rules r wire back) refl e in
    record { ring = wire_fits r wire f; some = leb-false (wire_ring r wire).count back (need 8 (packet_rules r wire back) t) }

none_applies : (r : Record) (wire back : ℕ) → wire ≤ 1 → back < (wire_ring r wire).count → first (packet_rules r wire back) ≡ taken
unfolding first
none_applies r wire back w h = rw (le-ltb 1 wire w, lt-leb (wire_ring r wire).count back h)

-- ---- the packets that were put last

shown_handed : (p a out : Octets) → length p ≤ slot_size → message_size ≤ length out → handed_by (shown_packet p a out) ≡ p ∷ []
unfolding handed_by
shown_handed p a out h room =
    (λ i. pick (word_handed false true (length p) 0 0 i) (cut 0 (word_length false true (length p) 0 0 (omega arith) i) (splice out 0 p) ∷ []) [])
    ∙ ap (λ (m : Octets). m ∷ []) (cut_same out 0 p (omega arith))

module _ (a : Octets) (outs : ℕ → Octets) (g : Good a) (room : (i : ℕ) → message_size ≤ length (outs i)) where
  -- one packet of a wire
  packet_handed : (wire back : ℕ) → wire ≤ 1 → back < (wire_ring (decode_of a) wire).count
      → handed_by (packet_call a (outs back) wire back) ≡ packet_back (decode_of a) wire back a ∷ []
  unfolding packet_call
  packet_handed wire back w h =
      let p = packet_back (decode_of a) wire back a in
      ap handed_by
      (sym
      (called_own (packet_rules (decode_of a) wire back) (shown_packet p a (outs back)) a (outs back) taken
      (enters a (length (outs back)) g.long g.judged (room back))
      (none_applies (decode_of a) wire back w h)))
      ∙ shown_handed p a (outs back) (length_slot (wire_at wire) a (slot_back (wire_ring (decode_of a) wire) back)) (room back)

  -- n of them, of which the first is the one of number p since the last fresh or power
  wire_shown_law : (wire p n : ℕ) → wire ≤ 1 → n ≤ (wire_ring (decode_of a) wire).count → Follows (p + n) (wire_ring (decode_of a) wire)
      → last_packets a outs wire n ≡ packets_from (wire_at wire) wire_slots a p n
  unfolding last_packets packets_from tab
  wire_shown_law wire p zero w few f = refl
  wire_shown_law wire p (suc n) w few f =
      let k = wire_ring (decode_of a) wire in
      let slot : slot_back k n ≡ p % wire_slots = omega (arith, few, f) in
      let rest = wire_shown_law wire (suc p) n w (omega arith) (omega (arith, f)) in
      ap (λ (l : List Octets). l ++ last_packets a outs wire n) (packet_handed wire n w (omega arith))
      ∙ (λ i. slot_packet (wire_at wire) a (slot i) ∷ rest i)

  -- they are those that are seen in the slots after p others, where as many were put as the observer has counted
  pub down_shown : (q : Puts) → Along q a → (p n : ℕ) → p + n ≡ q.down → n ≤ (decode_of a).down.count
      → last_packets a outs 0 n ≡ packets_from down_at wire_slots a p n
  unfolding wire_ring wire_at
  down_shown q al p n e few = wire_shown_law 0 p n (omega arith) few (omega (arith, al.down, e))

  pub up_shown : (q : Puts) → Along q a → (p n : ℕ) → p + n ≡ q.up → n ≤ (decode_of a).up.count
      → last_packets a outs 1 n ≡ packets_from up_at wire_slots a p n
  unfolding wire_ring wire_at
  up_shown q al p n e few = wire_shown_law 1 p n (omega arith) few (omega (arith, al.up, e))
