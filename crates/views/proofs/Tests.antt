-- The tests of the calls' rules, which speak of lists, as tests of the record's numbers: what the code's guards look at.
-- Assumes nothing.
use Prim.Native.Nat.{ℕ, ◌+◌, ◌-◌}
use native.Mathlib.Omega.{arith}
use mathlib.Core.Path.{◌≡◌, refl, sym, ap, ◌∙◌}
use mathlib.Core.Bool.{Bool, true, false, not}
use mathlib.Core.List.{List, [], ◌∷◌, map}
use lib.ListN.{length}
use lib.Dec.{ltb, leb, eqb}
use borrow.Author.Tests.{ne_eqb, leb-true, leb-false, lt-ltb, le-ltb}
use Rattle.octets.specs.Octets.{Octets, pick, cut}
use Rattle.packets.specs.Segments.{Segment, segments, segments_within}
use Rattle.state.specs.Conn.{place_of, owing, counts_of}
use Rattle.state.proofs.Chains.{on}
use Rattle.views.specs.Kinds.{Hand, Ring, Counts, Record}
use Rattle.area.specs.Map.{wire_slots, down_at, up_at}
use Rattle.area.specs.Ring.{packets_in}
use Rattle.area.proofs.Rings.{length_packets}
use Rattle.views.specs.View.{hand_of, down_of, up_of, view}
use Rattle.model.specs.Refusals.{is_nil, full, ids}
use Rattle.model.specs.calls.Credit.{owed_by}

-- ---- rings

nil_length : {A : Type 0} (l : List A) → is_nil l ≡ eqb (length l) 0
nil_length [] = refl
nil_length (x ∷ l) = sym (ne_eqb (length (x ∷ l)) 0 (λ e. omega arith))

-- no packet
pub packets_nil : (base cap : ℕ) (a : Octets) (k : Ring) → is_nil (packets_in base cap a k) ≡ eqb k.count 0
packets_nil base cap a k = nil_length (packets_in base cap a k) ∙ ap (λ (n : ℕ). eqb n 0) (length_packets base cap a k)

-- fewer than n free slots
pub down_full : (n : ℕ) (a : Octets) (r : Record) → full n (down_of a r) ≡ ltb wire_slots (r.down.count + n)
down_full n a r = ap (λ (m : ℕ). ltb wire_slots (m + n)) (length_packets down_at wire_slots a r.down)

pub up_full : (n : ℕ) (a : Octets) (r : Record) → full n (up_of a r) ≡ ltb wire_slots (r.up.count + n)
up_full n a r = ap (λ (m : ℕ). ltb wire_slots (m + n)) (length_packets up_at wire_slots a r.up)

-- no free slot
one_more : (n : ℕ) → ltb wire_slots (n + 1) ≡ leb wire_slots n
one_more n = go (leb wire_slots n) refl
  where
    go : (b : Bool) → leb wire_slots n ≡ b → ltb wire_slots (n + 1) ≡ b
    go true e = let h = leb-true wire_slots n e in lt-ltb wire_slots (n + 1) (omega arith)
    go false e = let h = leb-false wire_slots n e in le-ltb wire_slots (n + 1) (omega arith)

pub down_full_one : (a : Octets) (r : Record) → full 1 (down_of a r) ≡ leb wire_slots r.down.count
down_full_one a r = down_full 1 a r ∙ one_more r.down.count

pub up_full_one : (a : Octets) (r : Record) → full 1 (up_of a r) ≡ leb wire_slots r.up.count
up_full_one a r = up_full 1 a r ∙ one_more r.up.count

-- ---- messages in hand

segments_some : (size : ℕ) (m : Octets) → is_nil (segments size m) ≡ false
unfolding segments segments_within
segments_some size [] = refl
segments_some size (x ∷ m) = on (λ (l : List Segment). is_nil l ≡ false) (ltb size (length (x ∷ m))) (λ _. refl) (λ _. refl)

-- no message: the flag says so, not the length
pub hand_nil : (base size : ℕ) (a : Octets) (h : Hand) → is_nil (hand_of base size a h) ≡ not h.full
unfolding hand_of
hand_nil base size a h = go h.full
  where
    go : (b : Bool) → is_nil (pick b (segments size (cut (base + h.at) (h.len - h.at) a)) []) ≡ not b
    go true = segments_some size (cut (base + h.at) (h.len - h.at) a)
    go false = refl

pub hand_some : (base size : ℕ) (a : Octets) (h : Hand) → not (is_nil (hand_of base size a h)) ≡ h.full
hand_some base size a h = ap not (hand_nil base size a h) ∙ go h.full
  where
    go : (b : Bool) → not (not b) ≡ b
    go true = refl
    go false = refl

-- ---- what is owed

-- the five Conn IDs in their order are the five places in theirs
ids_places : {A : Type 0} (f : Counts → A) (l : List Counts) → length l ≡ 5 → map (λ (c : ℕ). f (counts_of l c)) ids ≡ map f l
unfolding place_of
ids_places f (u ∷ v ∷ w ∷ x ∷ y ∷ []) n = refl
ids_places f [] n = absurd (omega arith)
ids_places f (u ∷ []) n = absurd (omega arith)
ids_places f (u ∷ v ∷ []) n = absurd (omega arith)
ids_places f (u ∷ v ∷ w ∷ []) n = absurd (omega arith)
ids_places f (u ∷ v ∷ w ∷ x ∷ []) n = absurd (omega arith)
ids_places f (u ∷ v ∷ w ∷ x ∷ y ∷ z ∷ l) n = absurd (omega arith)

-- what is owed on each connection, by place
abbrev owed : Counts → ℕ
owed c = owing c.controller.opened c.controller.grant c.controller.owed

pub owed_by_law : (a : Octets) (r : Record) → length r.ends.conns ≡ 5 → owed_by (view a r) ≡ map owed r.ends.conns
owed_by_law a r five = ids_places owed r.ends.conns five
