-- `call_controller::airing::carry` meets its contract: the endpoint's message goes into its place, or the notification up.
use native.Mathlib.Omega.{arith}
use mathlib.Core.Path.{sym, ap, ◌∙◌}
use lib.ListN.{length}
use Rattle.octets.specs.Octets.{pick, splice}
use Rattle.octets.proofs.Octets.{cut_rest}
use Rattle.air.proofs.Spoken.{spoken_short}
use Rattle.area.specs.Map.{endpoint_at}
use Rattle.calls.specs.calls.Air.{aired_place, aired_slot}
use Rattle.call_controller.proofs.airing.carry.Goals as goal

pub take_message-requires : goal.take_message-requires
take_message-requires c =
    let m = c.args.m.now in
    let k = sym c.requires.1 ∙ c.if-spoken.true in
    omega (arith, c.requires.0, spoken_short m k, ap length (c.window.ensures ∙ cut_rest 1 m))

pub returns-then-spoken : goal.returns-then-spoken
returns-then-spoken c =
    let a = c.args.area.now in
    let m = c.args.m.now in
    let k = sym c.if-spoken.true ∙ c.requires.1 in
    c.take_message.ensures
    ∙ (λ i. splice a endpoint_at ((c.window.ensures ∙ cut_rest 1 m) i))
    ∙ (λ i. pick (k i) (aired_place m a) (aired_slot c.args.r m a))
