-- All values by default are octets, and a set of octets leaves octets.
-- Assumes nothing.
use Prim.Native.Nat.{ℕ, zero, suc, ◌+◌, ◌≤◌}
use native.Mathlib.Omega.{arith}
use mathlib.Core.Path.{◌≡◌, refl}
use mathlib.Core.Bool.{Bool, true, ◌&&◌}
use mathlib.Core.List.{[], ◌∷◌}
use lib.ListN.{length}
use lib.Dec.{eqb, leb}
use borrow.Author.Tests.{leb-true}
use Rattle.octets.specs.Octets.{Octets}
use Rattle.octets.specs.Octal.{Octal, octal_nil, octal_cons}
use Rattle.octets.proofs.Octal.{octal_cut, octal_splice}
use Rattle.state.proofs.Chains.{and_left, and_right, on}
use Rattle.config.specs.declared.table.Row.{Row}
use Rattle.std.specs.Prelude.{Option, Some, None, replicate}
use Rattle.config.specs.Table.{table, row_of, acceptable, default_of}
use Rattle.config.specs.Stored.{is_fixed, room, with_value, defaults}
use Rattle.config.specs.Commands.{param_at, id_in, length_in, settled, set_found, set_first}
use Rattle.config.proofs.Rows.{found_all, found_short}
use Rattle.config.proofs.Lists.{acceptable_short}

-- ---- by default

all_octets : Octets → Bool
all_octets [] = true
all_octets (x ∷ l) = leb x 255 && all_octets l

all_octal : (l : Octets) → all_octets l ≡ true → Octal l
unfolding all_octets
all_octal [] h = octal_nil
all_octal (x ∷ l) h = octal_cons (leb-true x 255 (and_left (leb x 255) (all_octets l) h)) (all_octal l (and_right (leb x 255) (all_octets l) h))

pub defaults_octal : Octal defaults
unfolding all_octets
defaults_octal = all_octal defaults refl

default_octal : (id : ℕ) (r : Row) → row_of id ≡ Some r → Octal (default_of r)
unfolding all_octets table
default_octal id r e = all_octal (default_of r) (found_all (λ q. all_octets (default_of q)) refl id r e)

-- ---- a value written

zeroes_octal : (n : ℕ) → Octal (replicate n 0x00)
zeroes_octal zero = octal_nil
zeroes_octal (suc n) = octal_cons {x = 0} (omega arith) (zeroes_octal n)

value_octal : (r : Row) {v b : Octets} → length v ≤ 255 → Octal v → Octal b → Octal (with_value r v b)
unfolding with_value
value_octal r short ov ob =
    octal_splice r.at (octal_splice r.at ob (zeroes_octal (room r))) (on Octal (is_fixed r) (λ _. ov) (λ _. octal_cons short ov))

-- ---- a set

one_octal : (id : ℕ) (o : Option Row) → row_of id ≡ o → {v b : Octets} → Octal v → Octal b → Octal (set_found o v b)
one_octal id None e ov ob = ob
one_octal id (Some r) e {v} {b} ov ob =
    on Octal (acceptable r (settled r v))
    (λ ok.
    value_octal r (omega (arith, acceptable_short r (settled r v) ok, found_short id r e))
    (on Octal (eqb (length v) 0) (λ _. default_octal id r e) (λ _. ov)) ob)
    (λ _. ob)

pub set_first_octal : {b m : Octets} → Octal b → Octal m → (n : ℕ) → Octal (set_first b m n)
unfolding set_first
set_first_octal ob om zero = ob
set_first_octal {b} {m} ob om (suc n) = one_octal (id_in m n) (row_of (id_in m n)) refl (octal_cut (param_at m n + 2) (length_in m n) om) (set_first_octal ob om n)
