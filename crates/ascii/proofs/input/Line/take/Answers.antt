-- `ascii::input::Line::take` meets its contract.
use Prim.Native.Nat.{ℕ}
use mathlib.Core.Path.{◌≡◌, ap, ◌∙◌}
use mathlib.Core.List.{◌++◌}
use lib.ListN.{take}
use native.Mathlib.Omega.{arith}
use Rattle.octets.specs.Octets.{cut}
use Rattle.ascii.specs.Input.{part_of}
use Rattle.ascii.proofs.Words.{up_to_front}
use Rattle.ascii.proofs.Writing.{wrote_front}
use Rattle.ascii.proofs.input.Line.take.Goals as goal

pub returns-clause-line : goal.returns-clause-line
unfolding cut
returns-clause-line g c =
    let piece = c.args.piece.now in
    let part : take c.before-n.result piece ≡ part_of piece = ap (λ (k : ℕ). take k piece) c.before-n.ensures.count ∙ up_to_front 10 piece in
    wrote_front (omega arith) c.put-self-inside.ensures
    ∙ (λ i. take (c.self.told i) (c.self.view_is i ++ part i))
