-- The laws of movers: a packet in a lent slot, a payload in its slot, a cleared area, and packets put one after the other.
-- Assumes nothing.
use Prim.Native.Nat.{ℕ, zero, suc, ◌+◌, ◌*◌, ◌-◌, ◌≤◌, ◌<◌}
use native.Mathlib.Omega.{arith}
use mathlib.Core.Path.{◌≡◌, refl, sym, ap, ◌∙◌}
use mathlib.Core.List.{List, [], ◌∷◌, ◌++◌, map}
use lib.ListN.{length, take, drop, length-take}
use lib.Dec.{ltb}
use Rattle.octets.specs.Octets.{Octets, cut, over, splice}
use Rattle.octets.specs.Octal.{Octal}
use Rattle.octets.proofs.Octets.{cut_part, cut_cut, cut_same, length_cut, length_splice, splice_all, splice_front, splice_lent, drop_splice}
use Rattle.octets.proofs.Octal.{octal_splice}
use Rattle.packets.specs.declared.Header.{Header}
use Rattle.std.specs.Prelude.{Some, replicate}
use Rattle.std.proofs.Math.Seq.{drop-cons}
use Rattle.std.proofs.Common.{drop_of_length-le}
use Rattle.packets.specs.Packet.{packet_of, read_of, payload_of, carrying, slot_after}
use Rattle.packets.specs.Segments.{Segment, last, body, segments, segment_at, segment_packet}
use Rattle.packets.proofs.Packet.{length_packet, length_carrying, read_facts, slot_fits}
use Rattle.packets.proofs.Segments.{body_segment, segments_each}
use Rattle.state.specs.declared.kinds.Progress.{Progress}
use Rattle.state.specs.declared.kinds.Ring.{Ring}
use Rattle.state.specs.Runs.{within}
use Rattle.state.proofs.Chains.{on}
use Rattle.area.specs.Map.{payload_size, slot_size, wire_slots, area_size}
use Rattle.area.specs.Ring.{free_at, put_into}
use Rattle.area.specs.Movers.{zeros, puts_all}
use Rattle.area.specs.Runs.{run_area}

-- ---- a packet in a slot

-- `packets::write(&mut a[s..s + 258], h, p)`: the area with the packet over it at s
pub packet_lent : (a w : Octets) (s : ℕ) (h : Header) (p : Octets) → length p ≤ payload_size → s + slot_size ≤ length a
    → w ≡ slot_after (take (s + slot_size - s) (drop s a)) h p
    → take s a ++ (w ++ drop (s + slot_size - s) (drop s a)) ≡ splice a s (packet_of h p)
packet_lent a w s h p short room e =
    let long : length (cut s slot_size a) ≡ slot_size = length_cut s slot_size a room in
    splice_lent a w s slot_size (packet_of h p) (omega (arith, length_packet h p))
    (e ∙ ap (λ (x : Octets). slot_after x h p) (cut_part s slot_size a) ∙ slot_fits (cut s slot_size a) h p short (omega arith))

-- a segment is no longer than its size
pub segment_short : (size : ℕ) (m : Octets) (at : ℕ) → length (body (segment_at size m at)) ≤ size
unfolding cut
segment_short size m at = rw (body_segment (ltb (at + size) (length m)) (cut at size m)) (simp length-take (omega arith))

-- the payload of the packet in a slot has as many octets as are asked for
pub length_payload : (a : Octets) (slot n : ℕ) → n ≤ payload_size → slot + slot_size ≤ length a → length (payload_of (cut slot slot_size a) n) ≡ n
length_payload a slot n h room =
    let long : length (cut slot slot_size a) ≡ slot_size = length_cut slot slot_size a room in
    length_cut 3 n (cut slot slot_size a) (omega arith)

-- a packet that a slot starts with has no more octets of payload than a slot has room for
cut_short : (at : ℕ) (l : Octets) → length (cut at slot_size l) ≤ slot_size
unfolding cut
cut_short at l = simp length-take (omega arith)

pub payload_few : (a : Octets) (slot : ℕ) (h : Header) (n : ℕ) → read_of (cut slot slot_size a) ≡ Some (h, n) → n ≤ payload_size
payload_few a slot h n e =
    let f = read_facts (cut slot slot_size a) h n e in
    omega (arith, f.room, f.size, cut_short slot a)

-- and it is that part of the slot, which is that part of the area
pub payload_part : (a : Octets) (slot n : ℕ) → n ≤ payload_size → cut (slot + 3) n a ≡ payload_of (cut slot slot_size a) n
payload_part a slot n h = sym (cut_cut 3 n slot slot_size a (omega arith))

-- ---- a packet returned

over_again : (l v w : Octets) → length v ≡ length w → over (over l v) w ≡ over l w
unfolding over
over_again [] v w e = refl
over_again (x ∷ l) [] [] e = refl
over_again (x ∷ l) [] (y ∷ w) e = absurd (omega arith)
over_again (x ∷ l) (z ∷ v) [] e = absurd (omega arith)
over_again (x ∷ l) (z ∷ v) (y ∷ w) e = ap (λ (t : Octets). y ∷ t) (over_again l v w (omega arith))

splice_again : (l : Octets) (at : ℕ) (v w : Octets) → length v ≡ length w → splice (splice l at v) at w ≡ splice l at w
unfolding splice
splice_again l zero v w e = over_again l v w e
splice_again [] (suc n) v w e = refl
splice_again (x ∷ l) (suc n) v w e = ap (λ (t : Octets). x ∷ t) (splice_again l n v w e)

-- `packets::set_credits(&mut b[to..to + 258], n)`, where b is the area with the slot v copied to it
pub slot_returned : (a b w v : Octets) (to n : ℕ) → length v ≡ slot_size → to + slot_size ≤ length a → b ≡ splice a to v
    → w ≡ carrying n (take (to + slot_size - to) (drop to b))
    → take to b ++ (w ++ drop (to + slot_size - to) (drop to b)) ≡ splice a to (carrying n v)
slot_returned a b w v to n long room copied e =
    let same : length v ≡ length (carrying n v) = sym (length_carrying n v) in
    let slot : take (to + slot_size - to) (drop to b) ≡ v =
    cut_part to slot_size b ∙ (λ i. cut to (sym long i) (copied i)) ∙ cut_same a to v (omega (arith, long)) in
    splice_lent b w to slot_size (carrying n v) (omega (arith, long, same))
    (e ∙ ap (carrying n) slot ∙ sym (splice_all (cut to slot_size b) (carrying n v) (ap length (sym (cut_part to slot_size b) ∙ slot) ∙ same)))
    ∙ ap (λ (x : Octets). splice x to (carrying n v)) copied
    ∙ splice_again a to v (carrying n v) same

-- ---- runs

module _ (limit base : ℕ) (a : Octets) (p : Progress) (v : Octets) where
  -- a run grows inside the area
  pub length_run : length (run_area limit base a p v) ≡ length a
  unfolding run_area
  length_run = on (λ (x : Octets). length x ≡ length a) (within limit p (length v)) (λ _. length_splice a (base + p.len) v) (λ _. refl)

  pub octal_run : Octal a → Octal v → Octal (run_area limit base a p v)
  unfolding run_area
  octal_run o k = on Octal (within limit p (length v)) (λ _. octal_splice (base + p.len) o k) (λ _. o)

-- ---- zeros

pub length_zeros : (n : ℕ) → length (zeros n) ≡ n
unfolding zeros
length_zeros zero = refl
length_zeros (suc n) = ap suc (length_zeros n)

-- a part that is filled with 0
zeros_filled : (n : ℕ) → replicate n 0 ≡ zeros n
unfolding zeros
zeros_filled zero = refl
zeros_filled (suc n) = ap (λ (t : Octets). 0 ∷ t) (zeros_filled n)

-- what stands past the zeros stays
pub zeros_rest : (l : Octets) (n : ℕ) → drop n (splice l 0 (zeros n)) ≡ drop n l
zeros_rest l n = drop_splice l 0 (zeros n) n (omega (arith, length_zeros n))

-- `a[..n].fill(0)`
pub cleared : (a w : Octets) (n : ℕ) → n ≤ length a → w ≡ replicate (length (take n a)) 0 → w ++ drop n a ≡ splice a 0 (zeros n)
cleared a w n room e =
    let long : length (take n a) ≡ n = simp length-take (omega arith) in
    (λ i. (e ∙ ap (λ (k : ℕ). replicate k 0) long ∙ zeros_filled n) i ++ drop (sym (length_zeros n) i) a)
    ∙ sym (splice_front a (zeros n) (omega (arith, length_zeros n)))

-- so a cleared area keeps what the caller has past its 36,864 octets
pub cleared_rest : (a : Octets) → drop area_size (splice a 0 (zeros area_size)) ≡ drop area_size a
cleared_rest a = zeros_rest a area_size

-- ---- puts_all: the segment of index k after those before it

module _ (size : ℕ) (pos : 1 ≤ size) (m : Octets) where
  left_more : (k : ℕ) → k < length (segments size m) → drop k (segments size m) ≡ segment_at size m (k * size) ∷ drop (suc k) (segments size m)
  left_more k h =
      drop-cons (segments size m) k (last []) h
      ∙ ap (λ (s : Segment). s ∷ drop (suc k) (segments size m)) (segments_each size pos m k h)

  module _ (base : ℕ) (a : Octets) (q : Ring) (h : Header) where
    pub puts_more : (k : ℕ) → k < length (segments size m)
        → puts_all base (splice a (free_at base wire_slots q) (segment_packet h (segment_at size m (k * size)))) (put_into q) (map (segment_packet h) (drop (suc k) (segments size m)))
        ≡ puts_all base a q (map (segment_packet h) (drop k (segments size m)))
    unfolding puts_all
    puts_more k l = ap (λ (s : List Segment). puts_all base a q (map (segment_packet h) s)) (sym (left_more k l))

    pub puts_none : (k : ℕ) → length (segments size m) ≤ k → a ≡ puts_all base a q (map (segment_packet h) (drop k (segments size m)))
    unfolding puts_all
    puts_none k l = ap (λ (s : List Segment). puts_all base a q (map (segment_packet h) s)) (sym (drop_of_length-le (segments size m) l))
