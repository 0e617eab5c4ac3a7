-- The loop of `ascii::hex::decode`.
use mathlib.Core.Path.{◌≡◌}
use lib.ListN.{take}
use Rattle.octets.specs.Octets.{splice}
use Rattle.ascii.specs.Digits.{octets_in}
use Rattle.ascii.proofs.hex.decode.Given as goal

abbrev pub invariant-loop-i : goal.invariant-loop-i
invariant-loop-i l = l.buffer ≡ splice l.initial.buffer 0 (take l.i (octets_in l.text))
