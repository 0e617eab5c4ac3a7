-- `record::read::terms_at` meets its contract.
use mathlib.Core.Path.{refl}
use Rattle.record.proofs.read.terms_at.Goals as goal

pub returns : goal.returns
returns c = refl
