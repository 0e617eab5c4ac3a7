-- The laws of `specs/Reserved.antt`: reading tells the reserved bits of octet 1 and nothing else, both ways.
-- Assumes nothing.
use Prim.Native.Nat.{ℕ, zero, suc, ◌+◌, ◌*◌, ◌-◌, ◌/◌, ◌%◌, ◌<◌}
use native.Mathlib.Omega.{arith}
use mathlib.Core.Path.{◌≡◌, refl, sym, ap, ◌∙◌, subst}
use mathlib.Core.Bool.{Bool, true, false}
use mathlib.Core.List.{◌++◌}
use lib.ListN.{get_or, length-append}
use lib.Dec.{eqb}
use borrow.Author.Tests.{eqb-true, eqb-false}
use Rattle.octets.specs.Octets.{Octets, pick}
use Rattle.octets.specs.Octal.{Octal}
use Rattle.octets.proofs.Octal.{octal_at}
use Rattle.packets.specs.Types.{mt_data}
use Rattle.packets.specs.declared.Header.{Header}
use Rattle.std.specs.Prelude.{Some, None}
use Rattle.packets.specs.declared.Way.{Way}
use Rattle.packets.specs.declared.Way.TheVariants.{Down, Up}
use Rattle.packets.specs.Packet.{Reading, octet0, octet1, oid_of, carried_of, spare_of, header_of, read_of, Writable}
use Rattle.packets.specs.Reserved.{data_mask, rfu_mask, rfu_of, rfu_by, bit_value, bit_at, credits_going, packet_with, RfuRead, RfuWritten, Rfu}
use Rattle.packets.proofs.Packet.{read_whole, read_facts}
use Rattle.packets.proofs.RoundTrip.{octet0_mt, octet0_pbf, octet0_id, written_again}

-- ---- a number without its low six bits, or its low two, is the number under a mask

abbrev Masked : ℕ → ℕ → Type 0
Masked x k = (bit_at k (x / 64 * 64) ≡ bit_at k 0xC0 * bit_at k x) × (bit_at k (x / 4 * 4) ≡ bit_at k 0xFC * bit_at k x) × (bit_at k x ≡ bit_at k 0xFF * bit_at k x)

low_off : (x k : ℕ) → k < 8 → Masked x k
unfolding bit_value
low_off x zero h = (omega arith, omega arith, omega arith)
low_off x (suc zero) h = (omega arith, omega arith, omega arith)
low_off x (suc (suc zero)) h = (omega arith, omega arith, omega arith)
low_off x (suc (suc (suc zero))) h = (omega arith, omega arith, omega arith)
low_off x (suc (suc (suc (suc zero)))) h = (omega arith, omega arith, omega arith)
low_off x (suc (suc (suc (suc (suc zero))))) h = (omega arith, omega arith, omega arith)
low_off x (suc (suc (suc (suc (suc (suc zero)))))) h = (omega arith, omega arith, omega arith)
low_off x (suc (suc (suc (suc (suc (suc (suc zero))))))) h = (omega arith, omega arith, omega arith)
low_off x (suc (suc (suc (suc (suc (suc (suc (suc k)))))))) h = absurd (omega arith)

-- ---- octets to fields

-- what is told of octet 1, from the octet itself: of data, and of all
abbrev of_data : Way → ℕ → ℕ
of_data Down second = second
of_data Up second = second / 4 * 4

told_is : (way : Way) (first second : ℕ) → rfu_of way (header_of first second) ≡ pick (eqb (first / 32) mt_data) (of_data way second) (second / 64 * 64)
unfolding header_of spare_of carried_of
told_is Down first second = go (eqb (first / 32) 0)
  where
    go : (b : Bool) → pick b (second / 4 * 4) (second / 64 * 64) / 4 * 4 + pick b (second % 4) 0 % 4 ≡ pick b second (second / 64 * 64)
    go true = omega arith
    go false = omega arith
told_is Up first second = refl

told_bits : (way : Way) (first second k : ℕ) → k < 8
    → bit_at k (rfu_of way (header_of first second)) ≡ bit_at k (rfu_mask way (first / 32)) * bit_at k second
told_bits way first second k h = ap (bit_at k) (told_is way first second) ∙ go way (eqb (first / 32) 0)
  where
    m : Masked second k
    m = low_off second k h

    go : (w : Way) (b : Bool) → bit_at k (pick b (of_data w second) (second / 64 * 64)) ≡ bit_at k (pick b (data_mask w) 0xC0) * bit_at k second
    go Down true = m.2
    go Up true = m.1
    go Down false = m.0
    go Up false = m.0

told_octet : (way : Way) (first second : ℕ) → second < 256 → rfu_of way (header_of first second) < 256
told_octet way first second h = subst (λ (n : ℕ). n < 256) (sym (told_is way first second)) (go way (eqb (first / 32) 0))
  where
    go : (w : Way) (b : Bool) → pick b (of_data w second) (second / 64 * 64) < 256
    go Down true = h
    go Up true = omega arith
    go w false = omega arith

rfu_read : (way : Way) (p : Octets) (h : Header) (n : ℕ) → Octal p → read_of p ≡ Some (h, n) → RfuRead way p h n
unfolding header_of
rfu_read way p h n o e =
    let w = read_facts p h n e in
    let octets : (i : ℕ) → get_or p i 0 < 256 = λ i. omega (arith, octal_at o i) in
    record {
      octet = subst (λ (x : Header). rfu_of way x < 256) (sym w.header) (told_octet way (get_or p 0 0) (get_or p 1 0) (octets 1));
      masked =
          λ k l.
          subst (λ (x : Header). bit_at k (rfu_of way x) ≡ bit_at k (rfu_mask way x.mt) * bit_at k (get_or p 1 0)) (sym w.header)
          (told_bits way (get_or p 0 0) (get_or p 1 0) k l);
      again = written_again p octets way h n e;
    }

-- what a reading tells is an octet
pub rfu_octet : (way : Way) (p : Octets) → Octal p → rfu_by way (read_of p) < 256
rfu_octet way p o = go (read_of p) refl
  where
    go : (r : Reading) → read_of p ≡ r → rfu_by way r < 256
    go (Some (h, n)) e = (rfu_read way p h n o e).octet
    go None e = omega arith

-- ---- fields to octets

module _ (rfu : ℕ) (h : Header) (w : Writable h) where
  -- octet 1, of data or of control
  abbrev octet : Way → Bool → ℕ
  octet way b = pick b (credits_going way h.credits % 4) (h.oid % 64) + rfu

  record Holds (way : Way) (b : Bool) : Type 0 where
    pub told : pick b (of_data way (octet way b)) (octet way b / 64 * 64) ≡ rfu
    pub oid : pick b 0 (octet way b % 64) ≡ h.oid
    pub credits : credits_going way (pick b (octet way b % 4) 0) ≡ credits_going way h.credits

  holds : (way : Way) (b : Bool) → eqb h.mt 0 ≡ b → rfu % (256 - pick b (data_mask way) 0xC0) ≡ 0 → Holds way b
  holds Down true e z = record { told = omega arith; oid = sym (w.data_oid (eqb-true h.mt 0 e)); credits = refl }
  holds Up true e z =
      record { told = omega (arith, z); oid = sym (w.data_oid (eqb-true h.mt 0 e)); credits = omega (arith, z, w.credits) }
  holds Down false e z = record { told = omega (arith, z); oid = omega (arith, z, w.oid); credits = refl }
  holds Up false e z =
      record { told = omega (arith, z); oid = omega (arith, z, w.oid); credits = sym (w.control_credits (eqb-false h.mt 0 e)) }

rfu_written : (way : Way) (rfu : ℕ) (h : Header) (payload rest : Octets) → Writable h → rfu < 256 → rfu % (256 - rfu_mask way h.mt) ≡ 0
    → RfuWritten way rfu h payload rest
unfolding packet_with header_of octet1 oid_of carried_of
rfu_written way rfu h payload rest w small z =
    let first = octet0 h.mt h.pbf h.id in
    let second = octet rfu h w way (eqb h.mt 0) in
    let top : first / 32 ≡ h.mt = octet0_mt h.mt h.id h.pbf w.mt in
    let has = holds rfu h w way (eqb h.mt 0) refl z in
    record {
      header = header_of first second;
      reads =
          read_whole (packet_with way rfu h payload ++ rest) (omega arith) (rw top w.mt) (omega (arith, length-append payload rest));
      told = told_is way first second ∙ (λ i. pick (eqb (top i) 0) (of_data way second) (second / 64 * 64)) ∙ has.told;
      mt = top;
      pbf = octet0_pbf h.mt h.id h.pbf;
      id = octet0_id h.mt h.id h.pbf w.id;
      oid = (λ i. pick (eqb (top i) 0) 0 (second % 64)) ∙ has.oid;
      credits = (λ i. credits_going way (pick (eqb (top i) 0) (second % 4) 0)) ∙ has.credits;
    }

pub rfu_both_ways : Rfu
rfu_both_ways = record { read = rfu_read; written = rfu_written }
