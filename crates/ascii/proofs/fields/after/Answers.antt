-- `ascii::fields::after` meets its contract.
use Prim.Native.Nat.{◌+◌}
use mathlib.Core.Path.{◌∙◌}
use lib.ListN.{drop}
use Rattle.octets.proofs.Octets.{cut_rest}
use Rattle.ascii.proofs.fields.after.Goals as goal

pub returns : goal.returns
returns c =
    let line = c.args.line.now in
    c.window.ensures ∙ cut_rest (c.before-2.result + 1) line ∙ (λ i. drop (c.before-2.ensures.count i + 1) line)
