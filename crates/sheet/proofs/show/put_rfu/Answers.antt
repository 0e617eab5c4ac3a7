-- `sheet::show::put_rfu` meets its contract.
use Prim.Native.Nat.{ℕ}
use mathlib.Core.Path.{ap}
use mathlib.Core.List.{[], ◌∷◌}
use Rattle.ascii.specs.Digits.{hex_of}
use Rattle.ascii.proofs.Writing.{wrote_text, wrote_then}
use Rattle.sheet.proofs.show.put_rfu.Goals as goal

pub returns : goal.returns
returns c =
    let rfu = c.rfu.ensures in
    wrote_then _ _ c.put-n.ensures
    (wrote_text (ap (λ (n : ℕ). hex_of (n ∷ [])) rfu) c.put_octets.ensures)
