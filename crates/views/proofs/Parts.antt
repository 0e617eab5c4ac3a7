-- The parts of the view: what depends on which octets, and what a segment that goes and a segment that joins does to them.
-- Assumes nothing.
use Prim.Native.Nat.{ℕ, ◌+◌, ◌-◌, ◌*◌, ◌≤◌, ◌<◌}
use native.Mathlib.Omega.{arith}
use mathlib.Core.Path.{◌≡◌, refl, sym, ap, ◌∙◌}
use mathlib.Core.Logic.{◌⊎◌, inl, inr}
use mathlib.Core.Bool.{Bool, true, false}
use mathlib.Core.List.{List, [], ◌∷◌}
use lib.ListN.{length, drop}
use lib.Dec.{ltb}
use Rattle.octets.specs.Octets.{Octets, pick, cut, splice}
use Rattle.octets.proofs.Octets.{length_cut, drop_cut, cut_same}
use Rattle.packets.specs.Segments.{Segment, segments, segment_at}
use Rattle.packets.proofs.Segments.{segments_step}
use Rattle.packets.specs.Reassembly.{run, lost}
use Rattle.views.specs.Kinds.{Progress, Hand, Ring}
use Rattle.area.specs.Map.{slot_size, message_size}
use Rattle.area.specs.Ring.{slot_at, trim, slot_packet, packets_in}
use Rattle.state.specs.Conn.{hand_after, empty}
use Rattle.area.proofs.Rings.{apart, Size, packets_kept}
use Rattle.views.specs.View.{hand_of, run_of}

-- ---- what a write leaves alone

-- two areas agree on n octets from lo on
abbrev pub Same : ℕ → ℕ → Octets → Octets → Type 0
Same lo n a b = (i k : ℕ) → lo ≤ i → i + k ≤ lo + n → cut i k b ≡ cut i k a

-- they do where what is written ends before these or starts after them
pub same_apart : (lo n : ℕ) (a : Octets) (at : ℕ) (v : Octets) → (lo + n ≤ at) ⊎ (at + length v ≤ lo) → Same lo n a (splice a at v)
same_apart lo n a at v (inl h) i k l m = apart a at v i k (inl (omega arith))
same_apart lo n a at v (inr h) i k l m = apart a at v i k (inr (omega arith))

pub hand_same : (base size : ℕ) (a b : Octets) (h : Hand) → h.at ≤ h.len → h.len ≤ message_size → Same base message_size a b → hand_of base size b h ≡ hand_of base size a h
unfolding hand_of
hand_same base size a b h l m s = ap (λ (v : Octets). pick h.full (segments size v) []) (s (base + h.at) (h.len - h.at) (omega arith) (omega arith))

pub run_same : (base room : ℕ) (a b : Octets) (p : Progress) → p.len ≤ room → Same base room a b → run_of base b p ≡ run_of base a p
unfolding run_of
run_same base room a b p l s = ap (λ (v : Octets). pick p.lost lost (run v)) (s base p.len (omega arith) (omega arith))

pub packets_same : (base cap : ℕ) (z : Size cap) (a b : Octets) (r : Ring) → Same base (cap * slot_size) a b → packets_in base cap b r ≡ packets_in base cap a r
unfolding slot_packet
packets_same base cap z a b r s = packets_kept base cap z a b r (λ i l. ap trim (s (slot_at base i) slot_size (omega arith) (fits i l)))
  where
    fits : (i : ℕ) → i < cap → slot_at base i + slot_size ≤ base + cap * slot_size
    fits i l = omega arith

-- ---- the message in hand

-- a message that was just put in hand
pub hand_put : (base size : ℕ) (a m : Octets) → base + length m ≤ length a
    → hand_of base size (splice a base m) (record { full = true; len = length m; at = 0 }) ≡ segments size m
unfolding hand_of
hand_put base size a m h =
    let e : base + 0 ≡ base = omega arith in
    let f : length m - 0 ≡ length m = omega arith in
    ap (segments size) ((λ i. cut (e i) (f i) (splice a base m)) ∙ cut_same a base m h)

-- the first segment still to go, and those after it
pub hand_gone : (base size : ℕ) (a : Octets) (h : Hand) → 0 < size → h.full ≡ true → h.at ≤ h.len → base + h.len ≤ length a
    → hand_of base size a h ≡ segment_at size (cut base h.len a) h.at ∷ hand_of base size a (hand_after size h)
unfolding hand_of
hand_gone base size a h pos f l m =
    let msg : Octets = cut base h.len a in
    let n : length msg ≡ h.len = length_cut base h.len a m in
    rw f
    (ap (segments size) (sym (drop_cut h.at base h.len a)) ∙ segments_step size pos msg h.at
    ∙ ap (λ (k : List Segment). segment_at size msg h.at ∷ k)
    ((λ i. pick (ltb (h.at + size) (n i)) (segments size (drop (h.at + size) msg)) []) ∙ go (ltb (h.at + size) h.len)))
  where
    go : (b : Bool) → pick b (segments size (drop (h.at + size) (cut base h.len a))) []
        ≡ pick (pick b (record { full = true; len = h.len; at = h.at + size }) empty).full
        (segments size (cut (base + (pick b (record { full = true; len = h.len; at = h.at + size }) empty).at) ((pick b (record { full = true; len = h.len; at = h.at + size }) empty).len - (pick b (record { full = true; len = h.len; at = h.at + size }) empty).at) a)) []
    go true = ap (segments size) (drop_cut (h.at + size) base h.len a)
    go false = refl
