-- `forms::names::name_in` meets its contract.
use mathlib.Core.Path.{◌∙◌}
use Rattle.std.proofs.Common.{rules, tests}
use Rattle.std.proofs.lemmas.Iterator.{YieldsList-from_slice}
use Rattle.std.proofs.lemmas.Iterator.Consumers.{YieldsList-from_copied}
use Rattle.std.proofs.lemmas.Iterator.Search.{find_from_yields_List}
use Rattle.ascii.specs.Words.{same_as}
use Rattle.forms.specs.Names.{text_of, names}
use Rattle.forms.proofs.Naming.{found_among}
use Rattle.forms.proofs.names.name_in.Goals as goal

pub returns : goal.returns
returns c =
    let l = c.args.word.now in
    let found = find_from_yields_List (λ x. same_as l (text_of x)) _ _ c.find.result c.find.ensures.ran (YieldsList-from_copied (YieldsList-from_slice names cc)) (λ x b q k. search (rules, tests)) in
    c.unwrap_or.ensures ∙ found_among c.find.result names l found
