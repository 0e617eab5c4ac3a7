-- Both round trips of the packet layer: what is written is read back, and what was read is written again, octet for octet.
-- Assumes nothing.
use Prim.Native.Nat.{ℕ, suc, ◌+◌, ◌*◌, ◌-◌, ◌/◌, ◌%◌, ◌<◌, ◌≤◌}
use native.Mathlib.Nat.{not-suc-le-zero, le_of_suc-le-suc, div-div-eq-div-mul}
use native.Mathlib.Decide.{dec_le}
use native.Mathlib.Omega.{arith}
use mathlib.Core.Path.{◌≡◌, refl, sym, ap, ◌∙◌}
use mathlib.Core.List.{[], ◌∷◌, ◌++◌}
use mathlib.Core.Bool.{Bool, true, false}
use lib.ListN.{length, get_or, take, drop, length-append}
use lib.Seq.{take-append_seam}
use lib.Dec.{eqb}
use borrow.Author.Tests.{eq-eqb, ne_eqb}
use Rattle.octets.specs.Octets.{Octets, pick, cut}
use Rattle.packets.specs.Types.{mt_data}
use Rattle.packets.specs.declared.Header.{Header}
use Rattle.std.specs.Prelude.{Some}
use Rattle.packets.specs.declared.Way.{Way}
use Rattle.packets.specs.declared.Way.TheVariants.{Down, Up}
use Rattle.packets.specs.Packet.{octet0, octet1, oid_of, carried_of, spare_of, packet_of, header_of, read_of, payload_of, carrying, credited, Writable}
use Rattle.packets.specs.Reserved.{rfu_of, credits_going, packet_with}
use Rattle.octets.proofs.Octets.{length_cut}
use Rattle.packets.proofs.Packet.{read_whole, read_facts}

-- ---- octet 0, written and read

module _ (mt id : ℕ) where
  pub octet0_mt : (pbf : Bool) → mt < 4 → octet0 mt pbf id / 32 ≡ mt
  unfolding octet0
  octet0_mt true h = omega arith
  octet0_mt false h = omega arith

  pub octet0_pbf : (pbf : Bool) → eqb (octet0 mt pbf id / 16 % 2) 1 ≡ pbf
  unfolding octet0
  octet0_pbf true = eq-eqb ((mt % 8 * 32 + 16 + id % 16) / 16 % 2) 1 (omega arith)
  octet0_pbf false = ne_eqb ((mt % 8 * 32 + id % 16) / 16 % 2) 1 (omega arith)

  pub octet0_id : (pbf : Bool) → id < 16 → octet0 mt pbf id % 16 ≡ id
  unfolding octet0
  octet0_id true h = omega arith
  octet0_id false h = omega arith

-- ---- octet 1, written and read

module _ (mt oid credits : ℕ) where
  octet1_oid : oid < 64 → (mt ≡ 0 → oid ≡ 0) → oid_of mt (octet1 mt oid credits) ≡ oid
  unfolding oid_of octet1
  octet1_oid small data_oid = go (dec_le mt 0)
    where
      go : Dec (mt ≤ 0) → pick (eqb mt 0) 0 (pick (eqb mt 0) (credits % 4) (oid % 64) % 64) ≡ oid
      go (yes e) = let z : mt ≡ 0 = omega arith in rw (eq-eqb mt 0 z) (sym (data_oid z))
      go (no n) = rw (ne_eqb mt 0 (λ (z : mt ≡ 0). n (omega arith))) (omega arith)

  octet1_credits : credits < 4 → ((mt ≡ 0 → ⊥) → credits ≡ 0) → carried_of mt (octet1 mt oid credits) ≡ credits
  unfolding carried_of octet1
  octet1_credits small control_credits = go (dec_le mt 0)
    where
      go : Dec (mt ≤ 0) → pick (eqb mt 0) (pick (eqb mt 0) (credits % 4) (oid % 64) % 4) 0 ≡ credits
      go (yes e) = let z : mt ≡ 0 = omega arith in rw (eq-eqb mt 0 z) (omega arith)
      go (no n) = let z : mt ≡ 0 → ⊥ = λ e. n (omega arith) in rw (ne_eqb mt 0 z) (sym (control_credits z))

  octet1_spare : oid < 64 → spare_of mt (octet1 mt oid credits) ≡ 0
  unfolding spare_of octet1
  octet1_spare small = go (dec_le mt 0)
    where
      go : Dec (mt ≤ 0) → pick (eqb mt 0) (pick (eqb mt 0) (credits % 4) (oid % 64) / 4 * 4) (pick (eqb mt 0) (credits % 4) (oid % 64) / 64 * 64) ≡ 0
      go (yes e) = let z : mt ≡ 0 = omega arith in rw (eq-eqb mt 0 z) (omega arith)
      go (no n) = rw (ne_eqb mt 0 (λ (z : mt ≡ 0). n (omega arith))) (omega arith)

-- ---- fields to octets and back: whatever stands after the packet

module _ (h : Header) (payload rest : Octets) (w : Writable h) where
  header_written : header_of (octet0 h.mt h.pbf h.id) (octet1 h.mt h.oid h.credits) ≡ h
  unfolding header_of
  header_written =
      rw (
        octet0_mt h.mt h.id h.pbf w.mt,
        octet0_pbf h.mt h.id h.pbf,
        octet0_id h.mt h.id h.pbf w.id,
        octet1_oid h.mt h.oid h.credits w.oid w.data_oid,
        octet1_credits h.mt h.oid h.credits w.credits w.control_credits,
        octet1_spare h.mt h.oid h.credits w.oid,
        ← w.spare,
      )

  pub read_written : read_of (packet_of h payload ++ rest) ≡ Some (h, length payload)
  unfolding packet_of
  read_written =
      let p = packet_of h payload ++ rest in
      read_whole p (omega arith) (rw (octet0_mt h.mt h.id h.pbf w.mt) w.mt) (omega (arith, length-append payload rest))
      ∙ ap (λ (k : Header). Some (k, length payload)) header_written

  pub payload_written : payload_of (packet_of h payload ++ rest) (length payload) ≡ payload
  unfolding packet_of cut
  payload_written = take-append_seam payload rest

-- data that is passed on with other credits is as if it had been written with them
pub carrying_written : (h : Header) (payload : Octets) (n : ℕ) → h.mt ≡ mt_data → carrying n (packet_of h payload) ≡ packet_of (credited h n) payload
unfolding packet_of carrying octet1
carrying_written h payload n e =
    λ i. octet0 h.mt h.pbf h.id ∷ second i ∷ length payload ∷ payload
  where
    second : octet1 h.mt h.oid h.credits / 4 * 4 + n % 4 ≡ octet1 h.mt h.oid (n % 4)
    second = rw (eq-eqb h.mt 0 e) (omega arith)

-- ---- octets to fields and back

module _ (first second : ℕ) (small : first < 256) (octet : second < 256) where
  octet0_read : octet0 (first / 32) (eqb (first / 16 % 2) 1) (first % 16) ≡ first
  unfolding octet0
  octet0_read = go (dec_le (first / 16 % 2) 0)
    where
      top : first / 32 % 8 ≡ first / 32
      top = omega arith

      low : first % 16 % 16 ≡ first % 16
      low = omega arith

      half : first / 16 ≡ first / 32 * 2 + first / 16 % 2
      half = let e : first / 16 / 2 ≡ first / 32 = div-div-eq-div-mul first 16 2 in omega arith

      go : Dec (first / 16 % 2 ≤ 0) → octet0 (first / 32) (eqb (first / 16 % 2) 1) (first % 16) ≡ first
      go (yes e) = rw (ne_eqb (first / 16 % 2) 1 (λ (z : first / 16 % 2 ≡ 1). omega arith), top, low) (omega (arith, half))
      go (no e) = rw (eq-eqb (first / 16 % 2) 1 (omega arith), top, low) (omega (arith, half))

  -- octet 1 is its fields and the bits that are none
  octet1_parts : (mt : ℕ) → octet1 mt (oid_of mt second) (carried_of mt second) + spare_of mt second ≡ second
  unfolding octet1 oid_of carried_of spare_of
  octet1_parts mt = go (eqb mt 0)
    where
      go : (b : Bool) → pick b (pick b (second % 4) 0 % 4) (pick b 0 (second % 64) % 64) + pick b (second / 4 * 4) (second / 64 * 64) ≡ second
      go true = omega arith
      go false = omega arith

  -- going down, CR is none of its fields
  octet1_down : (mt : ℕ) → octet1 mt (oid_of mt second) 0 + (spare_of mt second / 4 * 4 + carried_of mt second % 4) ≡ second
  unfolding octet1 oid_of carried_of spare_of
  octet1_down mt = go (eqb mt 0)
    where
      go : (b : Bool)
          → pick b 0 (pick b 0 (second % 64) % 64) + (pick b (second / 4 * 4) (second / 64 * 64) / 4 * 4 + pick b (second % 4) 0 % 4) ≡ second
      go true = omega arith
      go false = omega arith

  octet1_again : (way : Way) → let h = header_of first second in octet1 h.mt h.oid (credits_going way h.credits) + rfu_of way h ≡ second
  unfolding header_of
  octet1_again Down = octet1_down (first / 32)
  octet1_again Up = octet1_parts (first / 32)

-- the first three octets, and the rest
three : (p : Octets) → 3 ≤ length p → p ≡ get_or p 0 0 ∷ get_or p 1 0 ∷ get_or p 2 0 ∷ drop 3 p
three [] h = absurd (not-suc-le-zero h)
three (x ∷ []) h = absurd (not-suc-le-zero (le_of_suc-le-suc h))
three (x ∷ y ∷ []) h = absurd (not-suc-le-zero (le_of_suc-le-suc (le_of_suc-le-suc h)))
three (x ∷ y ∷ z ∷ p) h = refl

-- the packet itself, up to its stated length, its reserved bits with it
module _ (p : Octets) (octets : (i : ℕ) → get_or p i 0 < 256) where
  again_whole : (way : Way) → 3 ≤ length p → get_or p 2 0 ≤ length p - 3
      → let h = header_of (get_or p 0 0) (get_or p 1 0) in packet_with way (rfu_of way h) h (payload_of p (get_or p 2 0)) ≡ take (3 + get_or p 2 0) p
  unfolding packet_with header_of cut
  again_whole way long room =
      let first = octet0_read (get_or p 0 0) (get_or p 1 0) (octets 0) (octets 1) in
      let second = octet1_again (get_or p 0 0) (get_or p 1 0) (octets 0) (octets 1) way in
      let third = length_cut 3 (get_or p 2 0) p (omega arith) in
      let n : 3 + get_or p 2 0 ≡ suc (suc (suc (get_or p 2 0))) = omega arith in
      (λ i. first i ∷ second i ∷ third i ∷ take (get_or p 2 0) (drop 3 p)) ∙ sym (λ i. take (n i) (three p long i))

  pub written_again : (way : Way) (h : Header) (n : ℕ) → read_of p ≡ Some (h, n) → packet_with way (rfu_of way h) h (payload_of p n) ≡ take (3 + n) p
  written_again way h n e =
      let w = read_facts p h n e in
      (λ i. packet_with way (rfu_of way (w.header i)) (w.header i) (payload_of p (w.size i)))
      ∙ again_whole way w.long w.room
      ∙ ap (λ (k : ℕ). take (3 + k) p) (sym w.size)

  -- where no spare bit of it is set, as a writer writes it
  pub written_read : (h : Header) (n : ℕ) → read_of p ≡ Some (h, n) → h.spare ≡ 0 → packet_of h (payload_of p n) ≡ take (3 + n) p
  unfolding packet_of packet_with
  written_read h n e z =
      let bare : octet1 h.mt h.oid h.credits ≡ octet1 h.mt h.oid h.credits + h.spare = omega (arith, z) in
      (λ i. octet0 h.mt h.pbf h.id ∷ bare i ∷ length (payload_of p n) ∷ payload_of p n) ∙ written_again Up h n e
