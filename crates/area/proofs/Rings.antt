-- The laws of slots and rings, for every base and for both capacities: what a write leaves alone, what a slot then holds, and
-- the packets of a ring after one is taken or put.
-- Assumes nothing.
use Prim.Native.Nat.{ℕ, zero, suc, ◌+◌, ◌-◌, ◌%◌, ◌≤◌, ◌<◌, zero-le, suc-le-suc}
use native.Mathlib.Nat.{not-suc-le-zero, add-zero, add-suc, suc-add, add_comm}
use native.Mathlib.Numerals.{add-one, add-three}
use native.Mathlib.Omega.{arith}
use mathlib.Core.Path.{◌≡◌, refl, sym, ap, ◌∙◌}
use mathlib.Core.Logic.{◌⊎◌, inl, inr, ⊎_elim}
use mathlib.Core.Bool.{Bool, true, false}
use mathlib.Core.List.{List, [], ◌∷◌, ◌++◌}
use lib.ListN.{length, take, get_or}
use lib.Dec.{ltb}
use borrow.Author.Tests.{ltb-true, ltb-false}
use Rattle.octets.specs.Octets.{Octets, cut, over, splice}
use Rattle.octets.proofs.Octets.{length_cut, cut_before, cut_after}
use Rattle.packets.specs.declared.Header.{Header}
use Rattle.packets.specs.Packet.{octet0, octet1, packet_of, carrying}
use Rattle.packets.proofs.Packet.{length_packet}
use Rattle.state.specs.declared.kinds.Ring.{Ring}
use Rattle.area.specs.Map.{payload_size, slot_size, wire_slots, store_slots}
use Rattle.area.specs.Ring.{slot_at, trim, slot_packet, tab, packets_from, packets_in, free_at, took_from, put_into}

-- ---- tables

module _ {A : Type 0} where
  pub tab_ext : (f g : ℕ → A) (p q n : ℕ) → ((i : ℕ) → i < n → f (p + i) ≡ g (q + i)) → tab f p n ≡ tab g q n
  unfolding tab
  tab_ext f g p q zero h = refl
  tab_ext f g p q (suc n) h =
      λ k. rw (add-zero p, add-zero q) at (h zero (suc-le-suc zero-le)) k
      ∷ tab_ext f g (suc p) (suc q) n (λ i l. rw (suc-add p i, suc-add q i) (rw (add-suc p i, add-suc q i) at (h (suc i) (suc-le-suc l)))) k

  pub tab_snoc : (f : ℕ → A) (p n : ℕ) → tab f p (suc n) ≡ tab f p n ++ (f (p + n) ∷ [])
  unfolding tab
  tab_snoc f p zero = rw (add-zero p) refl
  tab_snoc f p (suc n) = ap (λ (t : List A). f p ∷ t) (tab_snoc f (suc p) n ∙ rw (suc-add p n, add-suc p n) refl)

  pub length_tab : (f : ℕ → A) (p n : ℕ) → length (tab f p n) ≡ n
  unfolding tab
  length_tab f p zero = refl
  length_tab f p (suc n) = ap suc (length_tab f (suc p) n)

-- a sum over the packets of two tables, packet by packet
pub tab_sum : (sum : List Octets → ℕ) (one : Octets → ℕ) → ((p : Octets) (w : List Octets) → sum (p ∷ w) ≡ one p + sum w)
    → (f g : ℕ → Octets) (p n : ℕ) → ((i : ℕ) → i < n → one (f (p + i)) ≡ one (g (p + i))) → sum (tab f p n) ≡ sum (tab g p n)
unfolding tab
tab_sum sum one step f g p zero h = refl
tab_sum sum one step f g p (suc n) h =
    step _ _
    ∙ (λ k. rw (add-zero p) at (h zero (suc-le-suc zero-le)) k
    + tab_sum sum one step f g (suc p) n (λ i l. rw (suc-add p i) (rw (add-suc p i) at (h (suc i) (suc-le-suc l)))) k)
    ∙ sym (step _ _)

-- ---- what a write leaves alone

-- a part that ends before what is written, or starts after it
pub apart : (l : Octets) (at : ℕ) (vs : Octets) (off n : ℕ) → (off + n ≤ at) ⊎ (at + length vs ≤ off) → cut off n (splice l at vs) ≡ cut off n l
apart l at vs off n (inl h) = cut_before l at vs off n h
apart l at vs off n (inr h) = cut_after l at vs off n h

pub lt_cases : (i j : ℕ) → (i ≡ j → ⊥) → (i < j) ⊎ (j < i)
lt_cases i j ne = go (ltb i j) refl
  where
    go : (b : Bool) → ltb i j ≡ b → (i < j) ⊎ (j < i)
    go true e = inl (ltb-true i j e)
    go false e = inr (omega (arith, ltb-false i j e))

-- a slot keeps its packet where another slot is written
pub slot_other : (base : ℕ) (a : Octets) (i j : ℕ) (vs : Octets) → length vs ≤ slot_size → (i ≡ j → ⊥) → slot_packet base (splice a (slot_at base j) vs) i ≡ slot_packet base a i
unfolding slot_packet
slot_other base a i j vs h ne = ap trim (apart a (slot_at base j) vs (slot_at base i) slot_size (⊎_elim (λ l. inl (omega arith)) (λ l. inr (omega arith)) (lt_cases i j ne)))

-- ---- what a slot holds after a write

take_over : (l vs : Octets) → length vs ≤ length l → take (length vs) (over l vs) ≡ vs
unfolding over
take_over l [] h = refl
take_over [] (v ∷ vs) h = absurd (not-suc-le-zero {n = length vs} h)
take_over (x ∷ l) (v ∷ vs) h = ap (λ (t : Octets). v ∷ t) (take_over l vs (omega arith))

trim_over : (l : Octets) (h : Header) (m : Octets) → 3 + length m ≤ length l → trim (over l (packet_of h m)) ≡ packet_of h m
unfolding trim over packet_of
trim_over [] h m k = absurd (not-suc-le-zero {n = 2 + length m} (omega arith))
trim_over (x ∷ []) h m k = absurd (not-suc-le-zero {n = 1 + length m} (omega arith))
trim_over (x ∷ y ∷ []) h m k = absurd (not-suc-le-zero {n = length m} (omega arith))
trim_over (x ∷ y ∷ z ∷ l) h m k = rw (add_comm 3 (length m), add-three (length m)) (ap (λ (t : Octets). octet0 h.mt h.pbf h.id ∷ octet1 h.mt h.oid h.credits ∷ length m ∷ t) (take_over l m (omega arith)))

take_of_over : (l : Octets) (n : ℕ) (vs : Octets) → length vs ≤ n → take n (over l vs) ≡ over (take n l) vs
unfolding over
take_of_over [] zero vs h = refl
take_of_over [] (suc n) vs h = refl
take_of_over (x ∷ l) zero [] h = refl
take_of_over (x ∷ l) zero (v ∷ vs) h = absurd (not-suc-le-zero {n = length vs} h)
take_of_over (x ∷ l) (suc n) [] h = refl
take_of_over (x ∷ l) (suc n) (v ∷ vs) h = ap (λ (t : Octets). v ∷ t) (take_of_over l n vs (omega arith))

-- a part that is written over from its start
pub cut_at : (l : Octets) (at n : ℕ) (vs : Octets) → length vs ≤ n → cut at n (splice l at vs) ≡ over (cut at n l) vs
unfolding cut splice over
cut_at l zero n vs h = take_of_over l n vs h
cut_at [] (suc a) n vs h = take_of_over [] n vs h
cut_at (x ∷ l) (suc a) n vs h = cut_at l a n vs h

-- the packet that was written into a slot
pub slot_written : (base : ℕ) (a : Octets) (i : ℕ) (h : Header) (m : Octets) → length m ≤ payload_size → slot_at base i + slot_size ≤ length a
    → slot_packet base (splice a (slot_at base i) (packet_of h m)) i ≡ packet_of h m
unfolding slot_packet
slot_written base a i h m k l =
    let e : length (cut (slot_at base i) slot_size a) ≡ slot_size = length_cut (slot_at base i) slot_size a l in
    ap trim (cut_at a (slot_at base i) slot_size (packet_of h m) (omega (arith, length_packet h m)))
    ∙ trim_over (cut (slot_at base i) slot_size a) h m (omega arith)

over_all : (l vs : Octets) → length l ≡ length vs → over l vs ≡ vs
unfolding over
over_all [] [] h = refl
over_all [] (v ∷ vs) h = absurd (not-suc-le-zero {n = length vs} (omega arith))
over_all (x ∷ l) [] h = absurd (not-suc-le-zero {n = length l} (omega arith))
over_all (x ∷ l) (v ∷ vs) h = ap (λ (t : Octets). v ∷ t) (over_all l vs (omega arith))

-- the packet of a slot that was copied whole
pub slot_copied : (base : ℕ) (a : Octets) (i : ℕ) (s : Octets) → length s ≡ slot_size → slot_at base i + slot_size ≤ length a
    → slot_packet base (splice a (slot_at base i) s) i ≡ trim s
unfolding slot_packet
slot_copied base a i s k l =
    let e : length (cut (slot_at base i) slot_size a) ≡ slot_size = length_cut (slot_at base i) slot_size a l in
    ap trim (cut_at a (slot_at base i) slot_size s (omega arith) ∙ over_all (cut (slot_at base i) slot_size a) s (omega arith))

-- other credits are put into a packet, or into the slot that starts with it
pub trim_carrying : (n : ℕ) (s : Octets) → trim (carrying n s) ≡ carrying n (trim s)
unfolding trim carrying
trim_carrying n [] = refl
trim_carrying n (x ∷ []) = refl
trim_carrying n (x ∷ y ∷ s) = rw (add_comm 3 (get_or s 0 0), add-three (get_or s 0 0))

-- ---- rings

-- what the laws need of a capacity: each is linear at a numeral
pub record Size (cap : ℕ) : Type 0 where
  pub within : (p : ℕ) → p % cap < cap
  pub small : (p : ℕ) → p < cap → p % cap ≡ p
  pub step : (p i : ℕ) → (suc p + i) % cap ≡ ((p + 1) % cap + i) % cap
  pub differ : (p i n : ℕ) → i < n → n < cap → (p + i) % cap ≡ (p + n) % cap → ⊥

pub wire : Size wire_slots
wire = record { within = λ p. omega arith; small = λ p h. omega arith; step = λ p i. omega arith; differ = λ p i n h k e. omega arith }

pub store : Size store_slots
store = record { within = λ p. omega arith; small = λ p h. omega arith; step = λ p i. omega arith; differ = λ p i n h k e. omega arith }

pub length_packets : (base cap : ℕ) (a : Octets) (r : Ring) → length (packets_in base cap a r) ≡ r.count
unfolding packets_from
length_packets base cap a r = length_tab _ r.head r.count

-- one packet more of those from slot p on
pub packets_snoc : (base cap : ℕ) (a : Octets) (p n : ℕ) → packets_from base cap a p (n + 1) ≡ packets_from base cap a p n ++ (slot_packet base a ((p + n) % cap) ∷ [])
unfolding packets_from
packets_snoc base cap a p n = ap (tab (λ i. slot_packet base a (i % cap)) p) (add-one n) ∙ tab_snoc (λ i. slot_packet base a (i % cap)) p n

module _ (base cap : ℕ) (z : Size cap) where
  -- the same packets, where each slot keeps its own
  pub packets_kept : (a b : Octets) (r : Ring) → ((i : ℕ) → i < cap → slot_packet base b i ≡ slot_packet base a i) → packets_in base cap b r ≡ packets_in base cap a r
  unfolding packets_from
  packets_kept a b r h = tab_ext _ _ r.head r.head r.count (λ i l. h ((r.head + i) % cap) (z.within (r.head + i)))

  -- the first packet and the rest
  pub packets_took : (a : Octets) (r : Ring) → r.head < cap → 0 < r.count → packets_in base cap a r ≡ slot_packet base a r.head ∷ packets_in base cap a (took_from cap r)
  unfolding packets_from tab
  packets_took a r h k =
      let f : ℕ → Octets = λ i. slot_packet base a (i % cap) in
      let e : r.count ≡ suc (r.count - 1) = omega arith in
      ap (tab f r.head) e
      ∙ (λ j. slot_packet base a (z.small r.head h j)
      ∷ tab_ext f f (suc r.head) ((r.head + 1) % cap) (r.count - 1) (λ i l. ap (slot_packet base a) (z.step r.head i)) j)

  -- one packet more, in the first free slot
  pub packets_put : (a : Octets) (r : Ring) (v x : Octets) → r.count < cap → length v ≤ slot_size
      → slot_packet base (splice a (free_at base cap r) v) ((r.head + r.count) % cap) ≡ x
      → packets_in base cap (splice a (free_at base cap r) v) (put_into r) ≡ packets_in base cap a r ++ (x ∷ [])
  unfolding packets_from
  packets_put a r v x h l e =
      let b : Octets = splice a (free_at base cap r) v in
      let f : ℕ → Octets = λ i. slot_packet base b (i % cap) in
      ap (tab f r.head) (add-one r.count) ∙ tab_snoc f r.head r.count
      ∙ (λ j. tab_ext f (λ i. slot_packet base a (i % cap)) r.head r.head r.count
      (λ i k. slot_other base a ((r.head + i) % cap) ((r.head + r.count) % cap) v l (z.differ r.head i r.count k h)) j ++ (e j ∷ []))
