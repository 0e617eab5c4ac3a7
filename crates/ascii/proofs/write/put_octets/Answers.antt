-- `ascii::write::put_octets` meets its contract.
use Prim.Native.Nat.{ℕ, ◌+◌}
use mathlib.Core.Path.{◌≡◌, sym, ap, ◌∙◌}
use native.Mathlib.Numerals.{add-one}
use lib.ListN.{take, get_or}
use lib.Seq.{take-suc}
use mathlib.Core.List.{[], ◌∷◌, ◌++◌}
use Rattle.ascii.specs.Digits.{hex_of}
use Rattle.ascii.proofs.Digits.{hex_append}
use Rattle.ascii.proofs.Writing.{wrote_nothing, wrote_text, wrote_then}
use Rattle.ascii.proofs.write.put_octets.Goals as goal

pub loop-octet-init : goal.loop-octet-init
unfolding hex_of
loop-octet-init c = wrote_nothing _ _ c.requires

pub loop-octet-preserved : goal.loop-octet-preserved
loop-octet-preserved c =
    let m = c.args.octets.now in
    let i = c.loop-octet.octet-index in
    let more : hex_of (take i m) ++ hex_of (get_or m i 0 ∷ []) ≡ hex_of (take (i + 1) m) =
    sym (hex_append (take i m) (get_or m i 0 ∷ []))
    ∙ ap hex_of (sym (take-suc m i 0 c.loop-octet-test.true))
    ∙ ap (λ (k : ℕ). hex_of (take k m)) (sym (add-one i)) in
    wrote_text more (wrote_then _ _ c.loop-octet.invariant c.put_octet-n.ensures)
