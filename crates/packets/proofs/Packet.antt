-- The laws of `specs/Packet.antt`: a law for each case of a definition. Functions and callers cite these, never the definitions' text.
-- Assumes nothing.
use Prim.Native.Nat.{ℕ, ◌+◌, ◌*◌, ◌-◌, ◌/◌, ◌%◌, ◌≤◌, ◌<◌}
use native.Mathlib.Nat.{le_of_suc-le-suc, not-suc-le-zero}
use native.Mathlib.Decide.{dec_le}
use native.Mathlib.Omega.{arith}
use mathlib.Core.Path.{◌≡◌, refl, sym, ap, ◌∙◌, subst}
use mathlib.Core.Bool.{Bool, true, false}
use mathlib.Core.List.{[], ◌∷◌, ◌++◌}
use lib.ListN.{length, get_or, drop, set}
use lib.Dec.{eqb, ltb, leb}
use borrow.Author.Tests.{le-leb, lt-leb, lt-ltb, le-ltb}
use Rattle.octets.specs.Octets.{Octets, pick, cut, splice, over}
use Rattle.octets.specs.Octal.{Octal, octal_cons}
use Rattle.octets.proofs.Octets.{splice_front}
use Rattle.packets.specs.Types.{mt_data}
use Rattle.packets.specs.declared.Header.{Header}
use Rattle.std.specs.Prelude.{Some, None}
use Rattle.packets.specs.Packet.{octet0, octet1, packet_of, oid_of, carried_of, spare_of, header_of, read_of, payload_of, carrying, credited, slot_after}

-- ---- packet_of

pub length_packet : (h : Header) (payload : Octets) → length (packet_of h payload) ≡ 3 + length payload
unfolding packet_of
length_packet h payload = omega arith

octet0_small : (mt : ℕ) (b : Bool) (id : ℕ) → octet0 mt b id ≤ 255
unfolding octet0
octet0_small mt true id = omega arith
octet0_small mt false id = omega arith

octet1_small : (mt oid credits : ℕ) → octet1 mt oid credits ≤ 255
unfolding octet1
octet1_small mt oid credits = go (eqb mt 0)
  where
    go : (b : Bool) → pick b (credits % 4) (oid % 64) ≤ 255
    go true = omega arith
    go false = omega arith

-- whatever its header, the octets of a packet are octets
pub octal_packet : (h : Header) (payload : Octets) → length payload ≤ 255 → Octal payload → Octal (packet_of h payload)
unfolding packet_of
octal_packet h payload n k = octal_cons (octet0_small h.mt h.pbf h.id) (octal_cons (octet1_small h.mt h.oid h.credits) (octal_cons n k))

-- ---- read_of

module _ (p : Octets) where
  pub read_short : length p < 3 → read_of p ≡ None
  unfolding read_of
  read_short h = simp (lt-ltb _ _ h)

  pub read_rfu : 3 ≤ length p → 4 ≤ get_or p 0 0 / 32 → read_of p ≡ None
  unfolding read_of
  read_rfu h i = simp (le-ltb _ _ h, le-leb _ _ i)

  pub read_cut : 3 ≤ length p → get_or p 0 0 / 32 < 4 → length p - 3 < get_or p 2 0 → read_of p ≡ None
  unfolding read_of
  read_cut h i j = simp (le-ltb _ _ h, lt-leb _ _ i, lt-ltb _ _ j)

  pub read_whole : 3 ≤ length p → get_or p 0 0 / 32 < 4 → get_or p 2 0 ≤ length p - 3
      → read_of p ≡ Some (header_of (get_or p 0 0) (get_or p 1 0), get_or p 2 0)
  unfolding read_of
  read_whole h i j = simp (le-ltb _ _ h, lt-leb _ _ i, le-ltb _ _ j)

-- a packet is read by its length and the three octets of its header
pub read_same : (p q : Octets) → length p ≡ length q → ((i : ℕ) → i < 3 → get_or p i 0 ≡ get_or q i 0) → read_of p ≡ read_of q
unfolding read_of
read_same p q l o =
    let o0 = o 0 (omega arith) in
    let o1 = o 1 (omega arith) in
    let o2 = o 2 (omega arith) in
    λ i.
    pick (ltb (l i) 3) None
    (pick (leb 4 (o0 i / 32)) None
    (pick (ltb (l i - 3) (o2 i)) None
    (Some (header_of (o0 i) (o1 i), o2 i))))

-- what is known of a packet that was read
pub record Whole (p : Octets) (h : Header) (n : ℕ) : Type 0 where
  pub long : 3 ≤ length p
  pub known : get_or p 0 0 / 32 < 4
  pub room : get_or p 2 0 ≤ length p - 3
  pub header : h ≡ header_of (get_or p 0 0) (get_or p 1 0)
  pub size : n ≡ get_or p 2 0

module _ (p : Octets) (h : Header) (n : ℕ) where
  dropped : read_of p ≡ None → read_of p ≡ Some (h, n) → ⊥
  dropped d e = let z : ◌≡◌ {A = ℕ} 0 1 = cc in omega arith

  pub read_facts : read_of p ≡ Some (h, n) → Whole p h n
  read_facts e = go (dec_le 3 (length p)) (dec_le 4 (get_or p 0 0 / 32)) (dec_le (get_or p 2 0) (length p - 3))
    where
      go : Dec (3 ≤ length p) → Dec (4 ≤ get_or p 0 0 / 32) → Dec (get_or p 2 0 ≤ length p - 3) → Whole p h n
      go (no a) b c = absurd (dropped (read_short p (omega arith)) e)
      go (yes a) (yes b) c = absurd (dropped (read_rfu p a b) e)
      go (yes a) (no b) (no c) = absurd (dropped (read_cut p a (omega arith) (omega arith)) e)
      go (yes a) (no b) (yes c) =
          let whole = read_whole p a (omega arith) c in
          let found : ◌≡◌ {A = Header × ℕ} (h, n) (header_of (get_or p 0 0) (get_or p 1 0), get_or p 2 0) = cc in
          record { long = a; known = omega arith; room = c; header = λ i. (found i).0; size = λ i. (found i).1 }

-- the fields of a header that was read are in their ranges
pub record Ranged (h : Header) : Type 0 where
  pub mt : h.mt < 4
  pub id : h.id < 16
  pub oid : h.oid < 64
  pub credits : h.credits < 4

oid_small : (mt second : ℕ) → oid_of mt second < 64
unfolding oid_of
oid_small mt second = go (eqb mt 0)
  where
    go : (b : Bool) → pick b 0 (second % 64) < 64
    go true = omega arith
    go false = omega arith

carried_small : (mt second : ℕ) → carried_of mt second < 4
unfolding carried_of
carried_small mt second = go (eqb mt 0)
  where
    go : (b : Bool) → pick b (second % 4) 0 < 4
    go true = omega arith
    go false = omega arith

pub read_ranged : (p : Octets) (h : Header) (n : ℕ) → read_of p ≡ Some (h, n) → Ranged h
unfolding header_of
read_ranged p h n e =
    let f = read_facts p h n e in
    subst Ranged (sym f.header)
    (record { mt = f.known; id = omega arith; oid = oid_small (get_or p 0 0 / 32) (get_or p 1 0); credits = carried_small (get_or p 0 0 / 32) (get_or p 1 0) })

-- ---- carrying

pub carrying_short : (n : ℕ) (p : Octets) → length p ≤ 1 → carrying n p ≡ p
unfolding carrying
carrying_short n [] h = refl
carrying_short n (x ∷ []) h = refl
carrying_short n (x ∷ y ∷ p) h = absurd (not-suc-le-zero (le_of_suc-le-suc h))

-- one store
pub carrying_stored : (n : ℕ) (p : Octets) → set p 1 (get_or p 1 0 / 4 * 4 + n % 4) ≡ carrying n p
unfolding carrying
carrying_stored n [] = refl
carrying_stored n (x ∷ []) = refl
carrying_stored n (x ∷ y ∷ p) = refl

pub length_carrying : (n : ℕ) (p : Octets) → length (carrying n p) ≡ length p
unfolding carrying
length_carrying n [] = refl
length_carrying n (x ∷ []) = refl
length_carrying n (x ∷ y ∷ p) = refl

pub octal_carrying : (n : ℕ) (p : Octets) → Octal p → Octal (carrying n p)
unfolding carrying
octal_carrying n [] k = k
octal_carrying n (x ∷ []) k = k
octal_carrying n (x ∷ y ∷ p) (octal_cons a (octal_cons b k)) = octal_cons a (octal_cons {x = y / 4 * 4 + n % 4} (omega arith) k)

-- its payload is as it was
pub payload_carrying : (n : ℕ) (p : Octets) (len : ℕ) → payload_of (carrying n p) len ≡ payload_of p len
unfolding carrying cut
payload_carrying n [] len = refl
payload_carrying n (x ∷ []) len = refl
payload_carrying n (x ∷ y ∷ p) len = refl

-- of a header only the credits change
header_carrying : (first second n : ℕ) → first / 32 ≡ 0 → header_of first (second / 4 * 4 + n % 4) ≡ credited (header_of first second) n
unfolding header_of oid_of carried_of spare_of
header_carrying first second n e =
    rw e
    (λ i. record { mt = 0; pbf = eqb (first / 16 % 2) 1; id = first % 16; oid = 0; credits = low i; spare = high i })
  where
    low : (second / 4 * 4 + n % 4) % 4 ≡ n % 4
    low = omega arith

    high : (second / 4 * 4 + n % 4) / 4 * 4 ≡ second / 4 * 4
    high = omega arith

-- a data packet is read back with its new credits
pub read_carrying : (n : ℕ) (p : Octets) (h : Header) (len : ℕ) → read_of p ≡ Some (h, len) → h.mt ≡ mt_data
    → read_of (carrying n p) ≡ Some (credited h n, len)
unfolding carrying header_of
read_carrying n [] h len e d = absurd (not-suc-le-zero (read_facts [] h len e).long)
read_carrying n (x ∷ []) h len e d = absurd (not-suc-le-zero (le_of_suc-le-suc (read_facts (x ∷ []) h len e).long))
read_carrying n (x ∷ y ∷ p) h len e d =
    let w = read_facts (x ∷ y ∷ p) h len e in
    let top : x / 32 ≡ 0 = sym (ap (λ (k : Header). k.mt) w.header) ∙ d in
    read_whole (x ∷ (y / 4 * 4 + n % 4) ∷ p) w.long w.known w.room
    ∙ (λ i. Some ((header_carrying x y n top ∙ ap (λ (k : Header). credited k n) (sym w.header)) i, sym w.size i))

-- ---- slot_after

-- three stores and a part after them are one packet
pub packet_stored : (slot : Octets) (h : Header) (payload : Octets) (a b : ℕ) → 3 ≤ length slot
    → a ≡ octet0 h.mt h.pbf h.id → b ≡ octet1 h.mt h.oid h.credits
    → splice (set (set (set slot 0 a) 1 b) 2 (length payload)) 3 payload ≡ splice slot 0 (packet_of h payload)
unfolding splice over packet_of
packet_stored [] h payload a b k ea eb = absurd (not-suc-le-zero k)
packet_stored (x ∷ []) h payload a b k ea eb = absurd (not-suc-le-zero (le_of_suc-le-suc k))
packet_stored (x ∷ y ∷ []) h payload a b k ea eb = absurd (not-suc-le-zero (le_of_suc-le-suc (le_of_suc-le-suc k)))
packet_stored (x ∷ y ∷ z ∷ s) h payload a b k ea eb = λ i. ea i ∷ eb i ∷ length payload ∷ over s payload

module _ (slot : Octets) (h : Header) (payload : Octets) where
  pub slot_fits : length payload ≤ 255 → 3 + length payload ≤ length slot → slot_after slot h payload ≡ splice slot 0 (packet_of h payload)
  unfolding slot_after
  slot_fits l s = simp (le-ltb _ _ l, le-ltb _ _ s)

  -- the packet, and then the slot's own octets
  pub slot_front : length payload ≤ 255 → 3 + length payload ≤ length slot
      → slot_after slot h payload ≡ packet_of h payload ++ drop (3 + length payload) slot
  slot_front l s =
      slot_fits l s
      ∙ splice_front slot (packet_of h payload) (rw length_packet s)
      ∙ ap (λ (n : ℕ). packet_of h payload ++ drop n slot) (length_packet h payload)
