-- The loop of `ascii::write::put_octets`: the digits of the octets so far are written.
use lib.ListN.{take}
use Rattle.ascii.specs.Digits.{hex_of}
use Rattle.ascii.specs.Writing.{Wrote}
use Rattle.ascii.proofs.write.put_octets.Given as goal

abbrev pub invariant-loop-octet : goal.invariant-loop-octet
invariant-loop-octet l = Wrote l.initial.out l.at (hex_of (take l.octet-index l.octets)) l.n l.out
