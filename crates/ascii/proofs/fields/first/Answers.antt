-- `ascii::fields::first` meets its contract.
use mathlib.Core.Path.{◌∙◌}
use Rattle.octets.specs.Octets.{cut}
use Rattle.ascii.proofs.Words.{up_to_front}
use Rattle.ascii.proofs.fields.first.Goals as goal

pub returns : goal.returns
returns c =
    let line = c.args.line.now in
    c.window.ensures ∙ (λ i. cut 0 (c.before-2.ensures.count i) line) ∙ up_to_front 32 line
