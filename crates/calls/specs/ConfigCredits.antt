-- No set or get of the configuration changes any credits, on octets (change 5): on every area with a good record, whether calls made it or not.
-- Assumes nothing.
use Rattle.std.specs.Prelude.{ℕ, ◌≤◌, ◌≡◌, true, List, ◌∷◌, length}
use Rattle.octets.specs.Octets.{Octets}
use Rattle.octets.specs.Octal.{Octal}
use Rattle.packets.specs.Segments.{Segment}
use Rattle.area.specs.Map.{message_size}
use Rattle.wires.specs.Meaning.{control, meaning}
use Rattle.views.specs.View.{view_of}
use Rattle.model.specs.calls.Report.{report_of}
use Rattle.model.specs.ConfigCredits.{is_config}
use Rattle.calls.specs.Refines.{Good}
use Rattle.calls.specs.calls.Command.{command_call}
use Rattle.calls.specs.calls.Down.{down_call}
use Rattle.calls.specs.calls.Up.{up_call}

-- the five numbers of a connection, of the bench that an area stands for
abbrev pub numbers_in : ℕ → Octets → Octets
numbers_in c a = report_of c (view_of a)

-- of an area a, a buffer with room for a message, and a connection c: the three calls that put, take, answer or read a packet of the two commands or their responses
pub record OctetCreditsKept (a out : Octets) (c : ℕ) : Type 0 where
  pub put : (gid oid : ℕ) (m : Octets) → Octal m → is_config gid oid ≡ true → numbers_in c (command_call a out gid oid m).area ≡ numbers_in c a
  pub answered : (p : Octets) (w : List Octets) (mt gid oid : ℕ) (x : Segment) → (view_of a).down ≡ p ∷ w → meaning p ≡ control mt gid oid x
      → is_config gid oid ≡ true → numbers_in c (down_call a out).area ≡ numbers_in c a
  pub heard : (p : Octets) (w : List Octets) (mt gid oid : ℕ) (x : Segment) → (view_of a).up ≡ p ∷ w → meaning p ≡ control mt gid oid x
      → is_config gid oid ≡ true → numbers_in c (up_call a out).area ≡ numbers_in c a

abbrev pub AlwaysCreditsKept : Type 0
AlwaysCreditsKept = (a out : Octets) → Good a → message_size ≤ length out → (c : ℕ) → OctetCreditsKept a out c
