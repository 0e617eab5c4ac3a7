-- Packets put one after the other on the up wire, as the answer to a command is.
-- Assumes nothing.
use Prim.Native.Nat.{ℕ, suc, ◌+◌, ◌≤◌, ◌<◌}
use native.Mathlib.Omega.{arith}
use mathlib.Core.Path.{◌≡◌, sym, ◌∙◌, subst}
use mathlib.Core.List.{List, [], ◌∷◌, ◌++◌, append_assoc, append-nil}
use lib.ListN.{length}
use Rattle.octets.specs.Octets.{Octets, splice}
use Rattle.octets.specs.Octal.{Octal}
use Rattle.octets.proofs.Octets.{length_splice}
use Rattle.octets.proofs.Octal.{octal_splice}
use Rattle.views.specs.Kinds.{Header, Ring, Record}
use Rattle.packets.specs.Packet.{packet_of}
use Rattle.packets.proofs.Packet.{octal_packet}
use Rattle.area.specs.Map.{up_at, payload_size, wire_slots, area_size}
use Rattle.area.specs.Ring.{free_at, put_into}
use Rattle.area.specs.Movers.{puts_all}
use Rattle.record.specs.Plan.{with_up}
use Rattle.model.specs.State as bench
use Rattle.views.specs.View.{up_of, view}
use Rattle.views.specs.Moves.{Sound}
use Rattle.views.proofs.Moved.{put_up}

-- a packet of octets that fits a slot
pub record Writes (p : Octets) : Type 0 where
  pub header : Header
  pub payload : Octets
  pub is : p ≡ packet_of header payload
  pub short : length payload ≤ payload_size
  pub octal : Octal payload

abbrev pub Each : List Octets → Type 0
Each [] = Unit {0}
Each (p ∷ ps) = Writes p × Each ps

-- the ring with n packets more
abbrev more_by : ℕ → Ring → Ring
more_by n k = record { head = k.head; count = k.count + n }

-- a packet was put, and the bench is as sound as before
put_sound : (a : Octets) (r : Record) (s : Sound a r) (v : Octets) → r.up.count < wire_slots → Sound (splice a (free_at up_at wire_slots r.up) v) (with_up (put_into r.up) r)
put_sound a r s v h =
    let n = length_splice a (free_at up_at wire_slots r.up) v in
    let f = s.fit in
    record {
      room = subst (λ (k : ℕ). area_size ≤ k) (sym n) s.room;
      fit = record { down = f.down; up = record { head = f.up.head; count = omega arith }; own = f.own; conns = f.conns };
      shape = record { pairs = s.shape.pairs; conns = s.shape.conns };
    }

pub puts_up_law : (ps : List Octets) (a : Octets) (r : Record) → Sound a r → Each ps → r.up.count + length ps ≤ wire_slots
    → view (puts_all up_at a r.up ps) (with_up (more_by (length ps) r.up) r) ≡ bench.with_up (up_of a r ++ ps) (view a r)
unfolding puts_all
puts_up_law [] a r s k n =
    let e : r.up.count + 0 ≡ r.up.count = omega arith in
    (λ i. view a (with_up (record { head = r.up.head; count = e i }) r)) ∙ (λ i. bench.with_up (sym (append-nil (up_of a r)) i) (view a r))
puts_up_law (p ∷ ps) a r s k n =
    let w = k.0 in
    let b : Octets = splice a (free_at up_at wire_slots r.up) p in
    let q : Record = with_up (put_into r.up) r in
    let c : r.up.count + suc (length ps) ≡ r.up.count + 1 + length ps = omega arith in
    let first : view b q ≡ bench.with_up (up_of a r ++ (p ∷ [])) (view a r) =
    (λ i. view (splice a (free_at up_at wire_slots r.up) (w.is i)) q)
    ∙ put_up a r s w.header w.payload w.short (omega arith)
    ∙ sym (λ i. bench.with_up (up_of a r ++ (w.is i ∷ [])) (view a r))
    in
    (λ i. view (puts_all up_at b (put_into r.up) ps) (with_up (record { head = r.up.head; count = c i }) r))
    ∙ puts_up_law ps b q (put_sound a r s p (omega arith)) k.1 (omega arith)
    ∙ (λ i. bench.with_up ((first i).up ++ ps) (first i))
    ∙ (λ i. bench.with_up (append_assoc (up_of a r) (p ∷ []) ps i) (view a r))

-- and its octets are octets
pub puts_octal : (ps : List Octets) (a : Octets) (k : Ring) → Each ps → Octal a → Octal (puts_all up_at a k ps)
unfolding puts_all
puts_octal [] a k w o = o
puts_octal (p ∷ ps) a k w o =
    puts_octal ps (splice a (free_at up_at wire_slots k) p) (put_into k) w.1
    (octal_splice (free_at up_at wire_slots k) o (subst Octal (sym w.0.is) (octal_packet w.0.header w.0.payload w.0.short w.0.octal)))
