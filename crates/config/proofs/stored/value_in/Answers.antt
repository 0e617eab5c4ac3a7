-- `config::stored::value_in` meets its contract.
use Prim.Native.Nat.{◌+◌}
use mathlib.Core.Path.{◌∙◌}
use Rattle.octets.specs.Octets.{cut}
use Rattle.config.specs.Stored.{value_in}
use Rattle.config.proofs.stored.value_in.Goals as goal

pub returns : goal.returns
unfolding value_in
returns c =
    let n = c.size_in-n.ensures in
    let a = c.args in
    c.window-2.ensures ∙ (λ i. cut 0 (n i) ((c.window.ensures ∙ (λ j. cut (a.r.at + c.lead.ensures.value j) a.r.most a.b.now)) i))
