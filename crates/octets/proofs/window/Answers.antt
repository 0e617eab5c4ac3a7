-- `octets::window` meets its contract: both bounds are cut to what there is.
use Prim.Native.Nat.{ℕ, ◌-◌}
use mathlib.Core.Path.{ap, ◌∙◌}
use native.Mathlib.Omega.{arith}
use lib.ListN.{length, take, drop, length-drop}
use lib.Seq.{take_all}
use Rattle.std.proofs.lemmas.List.{take_min, drop_min}
use Rattle.octets.specs.Octets.{cut}
use Rattle.octets.proofs.window.Goals as goal

pub returns : goal.returns
unfolding cut
returns c =
    let s = c.args.s.now in
    let i = c.min.result in
    let rest = take_all (length s - i) (drop i s) (simp length-drop (omega arith)) ∙ ap (λ (k : ℕ). drop k s) c.min.ensures ∙ drop_min c.args.at s in
    ap (λ (k : ℕ). take k (take (length s - i) (drop i s))) c.min-2.ensures ∙ take_min c.args.n _ ∙ ap (take c.args.n) rest
