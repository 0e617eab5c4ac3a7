-- `config::set::put_id` meets its contract.
use native.Mathlib.Omega.{arith}
use mathlib.Core.Path.{refl, sym}
use Rattle.octets.proofs.Octets.{splice_nil}
use Rattle.config.proofs.set.put_id.Goals as goal

pub returns-then-ok : goal.returns-then-ok
returns-then-ok c = rw c.if-ok.true record { octets = sym (splice_nil _ _); next = omega arith }

pub returns : goal.returns
returns c = rw c.if-ok.false record { octets = c.put.ensures; next = refl }
