-- `call_run::run::word` meets its contract.
use mathlib.Core.Path.{◌∙◌}
use native.Mathlib.Omega.{arith}
use Rattle.calls.specs.Word.{word_of, length_in}
use Rattle.call_run.proofs.run.word.Goals as goal

pub ran-requires : goal.ran-requires
unfolding length_in
ran-requires c = (omega (arith, c.length-len.ensures), c.requires)

pub returns : goal.returns
returns c =
    c.ran.ensures ∙ (λ i. word_of c.args.dropped (c.handed-handed.ensures i) (c.length-len.ensures i) c.args.made 0)
