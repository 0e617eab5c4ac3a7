-- Packets of a ring, counted one by one: the count over one packet more.
-- Assumes nothing.
use Prim.Native.Nat.{ℕ, ◌+◌, ◌%◌, ◌≤◌}
use native.Mathlib.Nat.{add_assoc}
use native.Mathlib.Omega.{arith}
use mathlib.Core.Path.{◌≡◌, refl, sym, ap, ◌∙◌}
use mathlib.Core.Bool.{Bool, true, false}
use mir.Val.{bool_byte}
use mathlib.Core.List.{List, [], ◌∷◌, ◌++◌}
use Rattle.octets.specs.Octets.{Octets, pick}
use Rattle.area.specs.Map.{wire_slots}
use Rattle.area.specs.Ring.{slot_in, trim, slot_packet, tab, packets_from}
use Rattle.area.proofs.Rings.{packets_snoc}
use Rattle.wires.specs.Meaning.{meaning}
use Rattle.wires.specs.Tally.{is_data_for, data_count}
use Rattle.wires.specs.Counted.{counted_on, counted_up}
use Rattle.wires.proofs.Slots.{first_slot}

-- ---- data_count

-- what a packet adds to the count
abbrev pub data_one : ℕ → Octets → ℕ
data_one c p = pick (is_data_for c (meaning p)) 1 0

-- a test as a number
pub one_if : (b : Bool) → bool_byte b ≡ pick b 1 0
one_if true = refl
one_if false = refl

pub data_one_small : (c : ℕ) (p : Octets) → data_one c p ≤ 1
data_one_small c p = elim (is_data_for c (meaning p)) as (λ b. pick b 1 0 ≤ 1) [ true ↦ omega arith | false ↦ omega arith ]

module _ (c : ℕ) where
  data_count_snoc : (w : List Octets) (p : Octets) → data_count c (w ++ (p ∷ [])) ≡ data_count c w + data_one c p
  unfolding data_count
  data_count_snoc [] p = omega arith
  data_count_snoc (q ∷ w) p = ap (λ (n : ℕ). data_one c q + n) (data_count_snoc w p) ∙ sym (add_assoc _ _ _)

  pub data_count_first : (base : ℕ) (a : Octets) (p : ℕ) → 0 ≡ data_count c (packets_from base wire_slots a p 0)
  unfolding packets_from tab data_count
  data_count_first base a p = refl

  pub data_count_more : (base : ℕ) (a : Octets) (p n : ℕ)
      → data_count c (packets_from base wire_slots a p (n + 1)) ≡ data_count c (packets_from base wire_slots a p n) + data_one c (slot_packet base a ((p + n) % wire_slots))
  data_count_more base a p n = ap (data_count c) (packets_snoc base wire_slots a p n) ∙ data_count_snoc _ _

  -- one turn of the loop
  pub data_count_turn : (base : ℕ) (a : Octets) (p n acc one : ℕ) → acc ≡ data_count c (packets_from base wire_slots a p n)
      → one ≡ data_one c (trim (slot_in base a ((p + n) % wire_slots))) → acc + one ≡ data_count c (packets_from base wire_slots a p (n + 1))
  data_count_turn base a p n acc one e f =
      (λ i. e i + (f ∙ ap (data_one c) (sym (first_slot base a ((p + n) % wire_slots)))) i) ∙ sym (data_count_more base a p n)

-- ---- counted_up

module _ (c : ℕ) where
  counted_up_snoc : (w : List Octets) (p : Octets) → counted_up c (w ++ (p ∷ [])) ≡ counted_up c w + counted_on c p
  unfolding counted_up
  counted_up_snoc [] p = omega arith
  counted_up_snoc (q ∷ w) p = ap (λ (n : ℕ). counted_on c q + n) (counted_up_snoc w p) ∙ sym (add_assoc _ _ _)

  pub counted_up_first : (base : ℕ) (a : Octets) (p : ℕ) → 0 ≡ counted_up c (packets_from base wire_slots a p 0)
  unfolding packets_from tab counted_up
  counted_up_first base a p = refl

  pub counted_up_more : (base : ℕ) (a : Octets) (p n : ℕ)
      → counted_up c (packets_from base wire_slots a p (n + 1)) ≡ counted_up c (packets_from base wire_slots a p n) + counted_on c (slot_packet base a ((p + n) % wire_slots))
  counted_up_more base a p n = ap (counted_up c) (packets_snoc base wire_slots a p n) ∙ counted_up_snoc _ _

  pub counted_up_turn : (base : ℕ) (a : Octets) (p n acc more : ℕ) → acc ≡ counted_up c (packets_from base wire_slots a p n)
      → more ≡ counted_on c (trim (slot_in base a ((p + n) % wire_slots))) → acc + more ≡ counted_up c (packets_from base wire_slots a p (n + 1))
  counted_up_turn base a p n acc more e f =
      (λ i. e i + (f ∙ ap (λ (q : Octets). counted_on c q) (sym (first_slot base a ((p + n) % wire_slots)))) i) ∙ sym (counted_up_more base a p n)
