-- `air::events::active_message` meets its contract: the parameters are all that is left of the octets.
use Rattle.messages.proofs.Messages.{put_same}
use mathlib.Core.Path.{◌∙◌, ap}
use native.Mathlib.Omega.{arith}
use lib.ListN.{length}
use Rattle.octets.proofs.Octets.{cut_rest}
use Rattle.messages.specs.Layout.{activated_ntf}
use Rattle.air.proofs.events.active_message.Goals as goal

pub activated_ntf-requires : goal.activated_ntf-requires
activated_ntf-requires c = omega (arith, c.requires, ap length (c.window.ensures ∙ cut_rest 4 c.args.m.now))

pub returns : goal.returns
returns c =
    let a = c.args in
    let params = c.window.ensures ∙ cut_rest 4 a.m.now in
    put_same (λ i. activated_ntf a.a (c.terms_of.ensures i) (params i)) c.activated_ntf.ensures
