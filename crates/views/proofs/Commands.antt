-- The packets of a command, one after the other on the down wire.
-- Assumes nothing.
use Prim.Native.Nat.{ℕ, suc, ◌+◌, ◌≤◌, ◌<◌}
use native.Mathlib.Omega.{arith}
use mathlib.Core.Path.{◌≡◌, sym, ◌∙◌, subst}
use mathlib.Core.List.{List, [], ◌∷◌, ◌++◌, map, append_assoc, append-nil}
use lib.ListN.{length, take, drop, length-take}
use Rattle.octets.specs.Octets.{Octets, splice}
use Rattle.octets.proofs.Octets.{length_splice}
use Rattle.views.specs.Kinds.{Header, Ring, Record}
use Rattle.packets.specs.Segments.{Segment, more, last, body, flag, marked, segments, segment_packet, packets_of}
use Rattle.packets.proofs.Segments.{segments_ind, segments_one, segments_more}
use Rattle.area.specs.Map.{down_at, payload_size, wire_slots, area_size}
use Rattle.area.specs.Ring.{free_at, put_into}
use Rattle.area.specs.Movers.{puts_all}
use Rattle.record.specs.Plan.{with_down}
use Rattle.model.specs.State as bench
use Rattle.views.specs.View.{down_of, view}
use Rattle.views.specs.Moves.{Sound}
use Rattle.views.proofs.Moved.{put_down}

-- ---- each segment fits a packet

unfoldable Short : ℕ → List Segment → Type 0
Short n [] = Unit {0}
Short n (x ∷ xs) = (length (body x) ≤ n) × Short n xs

short_one : (size : ℕ) (m : Octets) → length m ≤ size → Short size (last m ∷ [])
unfolding Short
short_one size m h = (h, tt)

short_more : (size : ℕ) (m : Octets) → Short size (segments size (drop size m)) → Short size (more (take size m) ∷ segments size (drop size m))
unfolding Short
short_more size m k = (simp length-take (omega arith), k)

segments_short : (size : ℕ) (pos : 1 ≤ size) (m : Octets) → Short size (segments size m)
segments_short size pos =
    segments_ind size pos (λ m. Short size (segments size m))
    (λ m h. subst (Short size) (sym (segments_one size m h)) (short_one size m h))
    (λ m h k. subst (Short size) (sym (segments_more size pos m h)) (short_more size m k))

-- ---- one packet after the other

-- the ring with n packets more
abbrev more_by : ℕ → Ring → Ring
more_by n k = record { head = k.head; count = k.count + n }

-- a packet was put, and the bench is as sound as before
put_sound : (a : Octets) (r : Record) (s : Sound a r) (v : Octets) → r.down.count < wire_slots → Sound (splice a (free_at down_at wire_slots r.down) v) (with_down (put_into r.down) r)
put_sound a r s v h =
    let n = length_splice a (free_at down_at wire_slots r.down) v in
    let f = s.fit in
    record {
      room = subst (λ (k : ℕ). area_size ≤ k) (sym n) s.room;
      fit =
          record {
            down = record { head = f.down.head; count = omega arith };
            up = f.up;
            own = f.own;
            conns = f.conns;
          };
      shape = record { pairs = s.shape.pairs; conns = s.shape.conns };
    }

puts_each : (h : Header) (size : ℕ) → size ≤ payload_size → (xs : List Segment) (a : Octets) (r : Record) → Sound a r → Short size xs → r.down.count + length xs ≤ wire_slots
    → view (puts_all down_at a r.down (map (segment_packet h) xs)) (with_down (more_by (length xs) r.down) r)
    ≡ bench.with_down (down_of a r ++ map (segment_packet h) xs) (view a r)
unfolding puts_all Short
puts_each h size z [] a r s k n =
    let e : r.down.count + 0 ≡ r.down.count = omega arith in
    (λ i. view a (with_down (record { head = r.down.head; count = e i }) r)) ∙ (λ i. bench.with_down (sym (append-nil (down_of a r)) i) (view a r))
puts_each h size z (x ∷ xs) a r s k n =
    let p : Octets = segment_packet h x in
    let b : Octets = splice a (free_at down_at wire_slots r.down) p in
    let q : Record = with_down (put_into r.down) r in
    let c : r.down.count + suc (length xs) ≡ r.down.count + 1 + length xs = omega arith in
    let first : view b q ≡ bench.with_down (down_of a r ++ (p ∷ [])) (view a r) = put_down a r s (marked h (flag x)) (body x) (omega (arith, k.0)) (omega arith) in
    (λ i. view (puts_all down_at b (put_into r.down) (map (segment_packet h) xs)) (with_down (record { head = r.down.head; count = c i }) r))
    ∙ puts_each h size z xs b q (put_sound a r s p (omega arith)) k.1 (omega arith)
    ∙ (λ i. bench.with_down ((first i).down ++ map (segment_packet h) xs) (first i))
    ∙ (λ i. bench.with_down (append_assoc (down_of a r) (p ∷ []) (map (segment_packet h) xs) i) (view a r))

pub puts_down : (a : Octets) (r : Record) (s : Sound a r) (h : Header) (size : ℕ) (m : Octets) → 1 ≤ size → size ≤ payload_size → r.down.count + length (segments size m) ≤ wire_slots
    → view (puts_all down_at a r.down (packets_of h size m)) (with_down (more_by (length (segments size m)) r.down) r)
    ≡ bench.with_down (down_of a r ++ packets_of h size m) (view a r)
puts_down a r s h size m pos z n = puts_each h size z (segments size m) a r s (segments_short size pos m) n
