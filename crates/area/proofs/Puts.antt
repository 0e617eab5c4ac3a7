-- The packets of a message, put one after the other: the area is as long as before, and its octets are octets.
-- Assumes nothing.
use Prim.Native.Nat.{ℕ, ◌≤◌}
use native.Mathlib.Omega.{arith}
use mathlib.Core.Path.{◌≡◌, refl, sym, ◌∙◌, subst}
use mathlib.Core.List.{List, [], ◌∷◌, map}
use lib.ListN.{length, take, drop, length-take}
use Rattle.octets.specs.Octets.{Octets, cut, splice}
use Rattle.octets.specs.Octal.{Octal}
use Rattle.octets.proofs.Octets.{length_splice}
use Rattle.octets.proofs.Octal.{octal_drop, octal_cut, octal_splice}
use Rattle.packets.specs.declared.Header.{Header}
use Rattle.packets.specs.Segments.{Segment, more, last, body, flag, marked, segments, segment_packet, packets_of}
use Rattle.packets.proofs.Packet.{octal_packet}
use Rattle.packets.proofs.Segments.{segments_ind, segments_one, segments_more}
use Rattle.state.specs.declared.kinds.Ring.{Ring}
use Rattle.area.specs.Map.{payload_size, wire_slots}
use Rattle.area.specs.Ring.{free_at, put_into}
use Rattle.area.specs.Movers.{puts_all}

pub length_puts : (base : ℕ) (a : Octets) (k : Ring) (ps : List Octets) → length (puts_all base a k ps) ≡ length a
unfolding puts_all
length_puts base a k [] = refl
length_puts base a k (p ∷ ps) = length_puts base (splice a (free_at base wire_slots k) p) (put_into k) ps ∙ length_splice a (free_at base wire_slots k) p

octal_take : (size : ℕ) {m : Octets} → Octal m → Octal (take size m)
unfolding cut
octal_take size o = octal_cut 0 size o

module _ (base : ℕ) (h : Header) (size : ℕ) (pos : 1 ≤ size) (room : size ≤ payload_size) where
  -- in an area of octets, with these segments still to be put
  abbrev Put : List Segment → Type 0
  Put xs = (a : Octets) (k : Ring) → Octal a → Octal (puts_all base a k (map (segment_packet h) xs))

  put_nil : Put []
  unfolding puts_all
  put_nil a k o = o

  put_cons : (x : Segment) (xs : List Segment) → length (body x) ≤ payload_size → Octal (body x) → Put xs → Put (x ∷ xs)
  unfolding puts_all
  put_cons x xs n v rest a k o =
      rest (splice a (free_at base wire_slots k) (segment_packet h x)) (put_into k)
      (octal_splice (free_at base wire_slots k) o (octal_packet (marked h (flag x)) (body x) n v))

  puts_octal : (m : Octets) → Octal m → Put (segments size m)
  puts_octal =
      segments_ind size pos (λ m. Octal m → Put (segments size m))
      (λ m n v. subst Put (sym (segments_one size m n)) (put_cons (last m) [] (omega arith) v put_nil))
      (λ m n rest v.
      subst Put (sym (segments_more size pos m n))
      (put_cons (more (take size m)) (segments size (drop size m)) (simp length-take (omega arith)) (octal_take size v) (rest (octal_drop size v))))

  pub octal_puts : (m a : Octets) (k : Ring) → Octal m → Octal a → Octal (puts_all base a k (packets_of h size m))
  octal_puts m a k v o = puts_octal m v a k o
