-- The loop of `sheet::show::put_wire`.
use Prim.Native.Nat.{ℕ, ◌-◌, ◌≤◌}
use mathlib.Core.Path.{◌≡◌}
use lib.ListN.{length}
use Rattle.octets.specs.Octets.{Octets}
use Rattle.ascii.specs.Digits.{hex_of}
use Rattle.ascii.specs.Writing.{Wrote}
use Rattle.sheet.specs.Show.{wire_shown}
use Rattle.sheet.proofs.show.put_wire.Given as goal

abbrev pub invariant-loop-i : goal.invariant-loop-i
invariant-loop-i l = (l.next ≤ length l.text) × (length l.text ≡ length l.initial.text) × ((e : ℕ) (k : Octets) → Wrote l.text l.next (hex_of (wire_shown l.wire (l.n - l.i) l.area)) e k → Wrote l.initial.text l.at (hex_of (wire_shown l.wire l.n l.area)) e k)
