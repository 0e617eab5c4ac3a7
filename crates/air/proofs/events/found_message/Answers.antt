-- `air::events::found_message` meets its contract: the parameters are all that is left of the octets.
use Rattle.messages.proofs.Messages.{put_same}
use mathlib.Core.Path.{◌∙◌, ap}
use native.Mathlib.Omega.{arith}
use lib.ListN.{length}
use Rattle.octets.proofs.Octets.{cut_rest}
use Rattle.messages.specs.Layout.{discover_ntf}
use Rattle.air.proofs.events.found_message.Goals as goal

pub discover_ntf-requires : goal.discover_ntf-requires
discover_ntf-requires c = omega (arith, c.requires, ap length (c.window.ensures ∙ cut_rest 5 c.args.m.now))

pub returns : goal.returns
returns c =
    let a = c.args in
    let params = c.window.ensures ∙ cut_rest 5 a.m.now in
    put_same (λ i. discover_ntf a.a a.kind (params i)) c.discover_ntf.ensures
