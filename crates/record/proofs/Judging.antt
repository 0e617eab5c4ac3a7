-- Row 1's tests of the five connections, one after another: the first n of them.
-- Assumes nothing.
use Prim.Native.Nat.{ℕ, zero, suc, ◌+◌}
use native.Mathlib.Omega.{arith}
use mathlib.Core.Path.{◌≡◌, refl}
use mathlib.Core.Bool.{Bool, true, ◌&&◌}
use mathlib.Core.List.{List}
use Rattle.octets.specs.Octets.{Octets}
use Rattle.record.specs.Kinds.{Counts}
use Rattle.record.specs.Layout.{counts_part}
use Rattle.record.specs.Judge.{counts_ok_in, conns_ok, conn_known, conns_known}

abbrev pub oks_to : List Counts → ℕ → Bool
oks_to l zero = true
oks_to l (suc n) = oks_to l n && counts_ok_in l n

pub oks_all : (l : List Counts) → oks_to l 5 ≡ conns_ok l
unfolding conns_ok
oks_all l = refl

abbrev pub known_to : Octets → ℕ → ℕ → Bool
known_to s at zero = true
known_to s at (suc n) = known_to s at n && conn_known s (at + counts_part n)

pub known_all : (s : Octets) (at : ℕ) → known_to s at 5 ≡ conns_known s at
unfolding conns_known
known_all s at =
    let e : at + counts_part 0 ≡ at = omega arith in
    λ i. conn_known s (e i) && conn_known s (at + counts_part 1) && conn_known s (at + counts_part 2) && conn_known s (at + counts_part 3) && conn_known s (at + counts_part 4)
