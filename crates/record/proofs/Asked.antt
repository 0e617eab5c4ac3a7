-- The host's own numbers while a command is unanswered are octets.
-- Assumes nothing.
use Prim.Native.Nat.{ℕ, ◌≤◌}
use native.Mathlib.Omega.{arith}
use Rattle.std.specs.Prelude.{Some}
use Rattle.octets.specs.Octal.{Octal, octal_nil, octal_cons}
use Rattle.record.specs.Kinds.{Asked}
use Rattle.record.specs.Writing.{pending_octets, host_octets}

pub asked_octal : (n : ℕ) (k : Asked) → n ≤ 255 → k.gid ≤ 255 → k.oid ≤ 255 → k.aim ≤ 255 → Octal (host_octets (record { size = n; pending = Some k }))
unfolding host_octets pending_octets
asked_octal n k h gid oid aim = octal_cons h (octal_cons {x = 1} (omega arith) (octal_cons gid (octal_cons oid (octal_cons aim octal_nil))))
