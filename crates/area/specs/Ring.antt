-- Rings of slots: a wire of sixteen and a store of eight, at any base. The packets of a ring are a list, the oldest first.
-- Assumes nothing.
use Rattle.std.specs.Prelude.{ℕ, zero, suc, ◌+◌, ◌-◌, ◌*◌, ◌%◌, List, [], ◌∷◌, take, get_or}
use Rattle.octets.specs.Octets.{Octets, cut}
use Rattle.state.specs.declared.kinds.Ring.{Ring}
use Rattle.area.specs.Map.{slot_size}

-- ---- slots

-- where slot i starts, of the slots from base on
abbrev pub slot_at : ℕ → ℕ → ℕ
slot_at base i = i * slot_size + base

-- the octets of a slot
abbrev pub slot_in : ℕ → Octets → ℕ → Octets
slot_in base a i = cut (slot_at base i) slot_size a

-- the packet that a slot starts with: the header, and as many octets as it states
unfoldable pub trim : Octets → Octets
trim s = take (3 + get_or s 2 0) s

unfoldable pub slot_packet : ℕ → Octets → ℕ → Octets
slot_packet base a i = trim (slot_in base a i)

-- ---- rings

-- f at p, p + 1, ..: n values
unfoldable pub tab : {A : Type 0} → (ℕ → A) → ℕ → ℕ → List A
tab f p zero = []
tab f p (suc n) = f p ∷ tab f (suc p) n

-- the packets of cap slots from base on: n of them from slot p
unfoldable pub packets_from : ℕ → ℕ → Octets → ℕ → ℕ → List Octets
packets_from base cap a p n = tab (λ i. slot_packet base a (i % cap)) p n

abbrev pub packets_in : ℕ → ℕ → Octets → Ring → List Octets
packets_in base cap a r = packets_from base cap a r.head r.count

-- where the first packet starts, and the first free slot
abbrev pub first_at : ℕ → Ring → ℕ
first_at base r = slot_at base r.head

abbrev pub free_at : ℕ → ℕ → Ring → ℕ
free_at base cap r = slot_at base ((r.head + r.count) % cap)

-- the first packet is taken; a packet is put in the first free slot
abbrev pub took_from : ℕ → Ring → Ring
took_from cap r = record { head = (r.head + 1) % cap; count = r.count - 1 }

abbrev pub put_into : Ring → Ring
put_into r = record { head = r.head; count = r.count + 1 }
