-- `call_controller::credit::none_owed` meets its contract, at each connection.
use mathlib.Core.Path.{◌∙◌}
use lib.Dec.{eqb}
use Rattle.std.proofs.Common.{rules, tests}
use Rattle.std.proofs.lemmas.Iterator.{YieldsList-from_slice}
use Rattle.std.proofs.lemmas.Iterator.Search.{all_from_yields_List}
use Rattle.calls.specs.Kinds.{Counts}
use Rattle.messages.specs.Layout.{owed_on}
use Rattle.call_controller.proofs.Owed.{owed_all}
use Rattle.call_controller.proofs.credit.none_owed.Goals as goal

pub returns : goal.returns
returns c =
    all_from_yields_List (λ (k : Counts). eqb (owed_on k.controller) 0) _ _ c.all.result c.all.ensures.ran (YieldsList-from_slice c.args.conns c.iter.ensures.rest) (λ x b q k. search (rules, tests))
    ∙ owed_all c.args.conns
