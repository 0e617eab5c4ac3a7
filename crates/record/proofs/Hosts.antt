-- The host's own number is an octet, and so it is where no command is unanswered.
-- Assumes nothing.
use Prim.Native.Nat.{ℕ, ◌≤◌}
use native.Mathlib.Omega.{arith}
use Rattle.std.specs.Prelude.{None}
use Rattle.octets.specs.Octal.{Octal, octal_cons}
use Rattle.octets.proofs.Octal.{octal_at}
use Rattle.record.specs.Kinds.{Host}
use Rattle.record.specs.Writing.{pending_octets, host_octets}
use Rattle.record.proofs.Small.{case}

pub host_size_law : (h : Host) → Octal (host_octets h) → h.size ≤ 255
unfolding host_octets
host_size_law h o = octal_at o 0

pub settled_octal : (n : ℕ) → n ≤ 255 → Octal (host_octets (record { size = n; pending = None }))
unfolding host_octets pending_octets
settled_octal n h = octal_cons h (case 0 (omega arith))
