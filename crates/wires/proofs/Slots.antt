-- A slot and the packet that it starts with read the same: octets past the stated length are ignored.
-- Assumes nothing.
use Prim.Native.Nat.{ℕ, ◌+◌, ◌/◌, ◌%◌, ◌≤◌, ◌<◌}
use native.Mathlib.Decide.{dec_le}
use native.Mathlib.Omega.{arith}
use mathlib.Core.Path.{◌≡◌, refl, sym, ap, ◌∙◌}
use mathlib.Core.Bool.{Bool, true, false}
use lib.ListN.{length, get_or, length-take}
use lib.Seq.{take_all, get_or-take}
use lib.Dec.{eqb}
use borrow.Author.Tests.{eqb-true, eq-eqb}
use Rattle.octets.specs.Octets.{Octets, pick, cut}
use Rattle.octets.proofs.Octets.{cut_cut}
use Rattle.packets.specs.declared.Header.{Header}
use Rattle.std.specs.Prelude.{Some, None}
use Rattle.packets.specs.Packet.{Reading, read_of, header_of, payload_of, carrying, credited}
use Rattle.packets.specs.Segments.{Segment, segment}
use Rattle.packets.proofs.Packet.{read_rfu, read_whole, read_facts, read_carrying, payload_carrying}
use Rattle.area.specs.Map.{slot_size}
use Rattle.area.specs.Ring.{trim, slot_at, slot_packet}
use Rattle.wires.specs.Meaning.{Meaning, datum, control, junk, meant, meaning_in, meaning}

-- ---- slot_packet

-- the packet of a slot is that of the slot's octets
pub first_slot : (base : ℕ) (a : Octets) (i : ℕ) → slot_packet base a i ≡ trim (cut (slot_at base i) slot_size a)
unfolding slot_packet
first_slot base a i = refl

-- ---- trim

module _ (s : Octets) where
  -- a slot that ends before its packet, or with it, is all there is
  pub trim_all : length s ≤ 3 + get_or s 2 0 → trim s ≡ s
  unfolding trim
  trim_all h = take_all _ s h

  pub length_trim : 3 + get_or s 2 0 ≤ length s → length (trim s) ≡ 3 + get_or s 2 0
  unfolding trim
  length_trim h = simp length-take (omega arith)

  -- the header's octets stay
  pub octet_trim : (i : ℕ) → i < 3 → get_or (trim s) i 0 ≡ get_or s i 0
  unfolding trim
  octet_trim i h = get_or-take (3 + get_or s 2 0) s i 0 (omega arith)

  -- ---- read_of, payload_of

  pub read_trim : read_of (trim s) ≡ read_of s
  read_trim = go (dec_le (length s) (3 + get_or s 2 0)) (dec_le 4 (get_or s 0 0 / 32))
    where
      go : Dec (length s ≤ 3 + get_or s 2 0) → Dec (4 ≤ get_or s 0 0 / 32) → read_of (trim s) ≡ read_of s
      go (yes a) b = ap read_of (trim_all a)
      go (no a) (yes b) =
          let n = length_trim (omega arith) in
          let o0 = octet_trim 0 (omega arith) in
          read_rfu (trim s) (omega arith) (rw o0 b) ∙ sym (read_rfu s (omega arith) b)
      go (no a) (no b) =
          let n = length_trim (omega arith) in
          let o0 = octet_trim 0 (omega arith) in
          let o1 = octet_trim 1 (omega arith) in
          let o2 = octet_trim 2 (omega arith) in
          read_whole (trim s) (omega arith) (rw o0 (omega arith)) (omega arith)
          ∙ (λ i. Some (header_of (o0 i) (o1 i), o2 i))
          ∙ sym (read_whole s (omega arith) (omega arith) (omega arith))

  pub payload_trim : (h : Header) (n : ℕ) → read_of s ≡ Some (h, n) → payload_of (trim s) n ≡ payload_of s n
  unfolding trim cut
  payload_trim h n e = let f = read_facts s h n e in cut_cut 3 n 0 (3 + get_or s 2 0) s (omega arith)

  -- ---- meaning

  pub meaning_trim : meaning (trim s) ≡ meaning s
  unfolding meaning
  meaning_trim = ap (meaning_in (trim s)) read_trim ∙ go (read_of s) refl
    where
      go : (r : Reading) → read_of s ≡ r → meaning_in (trim s) r ≡ meaning_in s r
      go (Some (h, n)) e = ap (λ (m : Octets). meant h (segment h.pbf m)) (payload_trim h n e)
      go None e = refl

  pub meaning_junk : read_of s ≡ None → meaning (trim s) ≡ junk
  unfolding meaning
  meaning_junk e = meaning_trim ∙ ap (meaning_in s) e

  pub meaning_packet : (h : Header) (n : ℕ) → read_of s ≡ Some (h, n) → meaning (trim s) ≡ meant h (segment h.pbf (payload_of s n))
  unfolding meaning
  meaning_packet h n e = meaning_trim ∙ ap (meaning_in s) e

-- the packet of a slot is read as the slot
pub read_slot : (base : ℕ) (a : Octets) (i : ℕ) → read_of (slot_packet base a i) ≡ read_of (cut (slot_at base i) slot_size a)
unfolding slot_packet
read_slot base a i = read_trim (cut (slot_at base i) slot_size a)

-- ---- data that is passed on with n credits

-- the same data with other credits
abbrev renewed : ℕ → Meaning → Meaning
renewed n (datum c m x) = datum c n x
renewed n (control mt gid oid x) = control mt gid oid x
renewed n junk = junk

-- only a data packet means data
pub meant_data : (h : Header) (y : Segment) (c m : ℕ) (x : Segment) → meant h y ≡ datum c m x → h.mt ≡ 0
meant_data h y c m x = go (eqb h.mt 0) refl
  where
    go : (b : Bool) → eqb h.mt 0 ≡ b → pick b (datum h.id h.credits y) (control h.mt h.id h.oid y) ≡ datum c m x → h.mt ≡ 0
    go true z e = eqb-true _ _ z
    go false z e = let z : ◌≡◌ {A = ℕ} 0 1 = cc in absurd (omega arith)

pub meaning_carrying : (n : ℕ) (p : Octets) (c m : ℕ) (x : Segment) → meaning p ≡ datum c m x → meaning (carrying n p) ≡ datum c (n % 4) x
unfolding meaning
meaning_carrying n p c m x = go (read_of p) refl
  where
    go : (r : Reading) → read_of p ≡ r → meaning_in p r ≡ datum c m x → meaning_in (carrying n p) (read_of (carrying n p)) ≡ datum c (n % 4) x
    go (Some (h, k)) e means =
        let zero = meant_data h (segment h.pbf (payload_of p k)) c m x means in
        ap (meaning_in (carrying n p)) (read_carrying n p h k e zero)
        ∙ ap (λ (o : Octets). meant (credited h n) (segment h.pbf o)) (payload_carrying n p k)
        ∙ rw (eq-eqb _ _ zero) (ap (renewed (n % 4)) (rw (eq-eqb _ _ zero) at means))
    go None e means = let z : ◌≡◌ {A = ℕ} 0 1 = cc in absurd (omega arith)
