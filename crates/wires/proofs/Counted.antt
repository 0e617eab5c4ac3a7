-- What a packet counts for, by its header: data of a connection, credits that it carries, those inside of three messages. Nothing else of it is asked.
-- Assumes nothing.
use Prim.Native.Nat.{ℕ}
use mathlib.Core.Path.{◌≡◌, refl, sym, ap, ◌∙◌}
use mathlib.Core.Bool.{Bool, true, false, ◌&&◌}
use lib.Dec.{eqb}
use borrow.Author.Tests.{eq-eqb, ne_eqb}
use Rattle.octets.specs.Octets.{Octets, pick}
use Rattle.packets.specs.declared.Header.{Header}
use Rattle.std.specs.Prelude.{Some, None, Option}
use Rattle.packets.specs.Packet.{Reading, read_of, payload_of}
use Rattle.packets.specs.Segments.{Segment}
use Rattle.area.specs.Ring.{trim}
use Rattle.wires.specs.declared.up.Inside.{Inside}
use Rattle.wires.specs.Meaning.{datum, control, meant, meaning_in, meaning}
use Rattle.wires.specs.Tally.{is_data_for}
use Rattle.wires.specs.Counted.{inside_of, inside_in, credits_inside, counted_in, counted_on}
use Rattle.wires.proofs.Slots.{read_trim, payload_trim}
use Rattle.wires.proofs.Counting.{data_one}

-- ---- data going down

pub data_meant : (c : ℕ) (h : Header) (x : Segment) → (eqb h.mt 0 && eqb h.id c) ≡ is_data_for c (meant h x)
data_meant c h x = go (eqb h.mt 0)
  where
    go : (b : Bool) → (b && eqb h.id c) ≡ is_data_for c (pick b (datum h.id h.credits x) (control h.mt h.id h.oid x))
    go true = refl
    go false = refl

-- ---- a slot counts for what the packet does that it starts with

module _ (c : ℕ) (s : Octets) where
  counted_trim : counted_on c (trim s) ≡ counted_on c s
  counted_trim = ap (counted_in c (trim s)) (read_trim s) ∙ go (read_of s) refl
    where
      go : (r : Reading) → read_of s ≡ r → counted_in c (trim s) r ≡ counted_in c s r
      go (Some (h, n)) e =
          ap (λ (m : Octets). pick (eqb h.mt 0) (pick (eqb h.id c) h.credits 0) (credits_inside c m (inside_of h n))) (payload_trim s h n e)
      go None e = refl

  pub counted_none : read_of s ≡ None → 0 ≡ counted_on c (trim s)
  counted_none e = sym (counted_trim ∙ ap (counted_in c s) e)

  module _ (h : Header) (n : ℕ) (e : read_of s ≡ Some (h, n)) where
    read_so : counted_on c (trim s) ≡ counted_in c s (Some (h, n))
    read_so = counted_trim ∙ ap (counted_in c s) e

    pub counted_data : h.mt ≡ 0 → pick (eqb h.id c) h.credits 0 ≡ counted_on c (trim s)
    counted_data z = sym (read_so ∙ rw (eq-eqb h.mt 0 z) refl)

    pub counted_control : (h.mt ≡ 0 → ⊥) → credits_inside c (payload_of s n) (inside_of h n) ≡ counted_on c (trim s)
    counted_control z = sym (read_so ∙ rw (ne_eqb h.mt 0 z) refl)

-- ---- two packets that read the same

module _ (c : ℕ) (p q : Octets) (same : read_of p ≡ read_of q) where
  data_read : (r : Reading) → is_data_for c (meaning_in p r) ≡ is_data_for c (meaning_in q r)
  data_read (Some (h, n)) = sym (data_meant c h _) ∙ data_meant c h _
  data_read None = refl

  pub data_same : data_one c p ≡ data_one c q
  unfolding meaning
  data_same = λ i. pick ((data_read (read_of p) ∙ ap (λ (r : Reading). is_data_for c (meaning_in q r)) same) i) 1 0

  -- one that is not looked into counts for its header
  pub counted_same : inside_in (read_of p) ≡ None → counted_on c p ≡ counted_on c q
  counted_same other = go (read_of p) other ∙ ap (counted_in c q) same
    where
      go : (r : Reading) → inside_in r ≡ None → counted_in c p r ≡ counted_in c q r
      go (Some (h, n)) e =
          let headed : Octets → Option Inside → ℕ = λ m x. pick (eqb h.mt 0) (pick (eqb h.id c) h.credits 0) (credits_inside c m x) in
          ap (headed (payload_of p n)) e ∙ sym (ap (headed (payload_of q n)) e)
      go None e = refl
