-- `record::parameters::values_of` meets its contract: all of the part is the array.
use mathlib.Core.Path.{◌∙◌}
use native.Mathlib.Omega.{arith}
use lib.Seq.{take_all}
use Rattle.octets.specs.Octets.{cut}
use Rattle.record.specs.Layout.{config_octets}
use Rattle.record.proofs.Configured.{length_config}
use Rattle.record.proofs.parameters.values_of.Goals as goal

pub returns : goal.returns
unfolding config_octets cut
returns c =
    let a = c.args.area.now in
    (rw c.unwrap.ensures at c.first_chunk.ensures.cases).same ∙ take_all 30 (config_octets a) (omega (arith, length_config a c.requires))
