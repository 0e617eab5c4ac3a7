-- `call_bench::report::numbers` meets its contract: each number is counted, and fits an octet.
use mathlib.Core.Path.{sym, ◌∙◌}
use mathlib.Core.List.{[], ◌∷◌}
use native.Mathlib.Omega.{arith}
use Rattle.octets.specs.Octets.{pick}
use Rattle.state.specs.Conn.{place_of, counts_of, flows, owing}
use Rattle.area.specs.Map.{store_slots, store_at}
use Rattle.area.proofs.Rings.{length_packets}
use Rattle.calls.proofs.Report.{down_octet, up_octet}
use Rattle.call_bench.proofs.report.numbers.Goals as goal

pub overflow_cast-result : goal.overflow_cast-result
overflow_cast-result c =
    omega (arith, c.data_count.ensures, down_octet c.args.area.now c.args.r c.args.conn c.requires.1)

pub overflow_cast-credits : goal.overflow_cast-credits
overflow_cast-credits c =
    omega (arith, c.credits_up-credits.ensures, up_octet c.args.area.now c.args.r c.args.conn c.requires.1)

pub returns : goal.returns
returns c =
    let a = c.args.area.now in
    let r = c.args.r in
    let k = c.counts_of-k.ensures in
    λ i.
    (c.held_shown.ensures ∙ (λ j. pick (flows (k j).controller.grant) (pick (k j).host.opened (k j).host.held 0) 255)) i
    ∷ c.data_count.ensures i
    ∷ ((λ j. (k j).controller.store.count) ∙ sym (length_packets (store_at (place_of c.args.conn)) store_slots a (counts_of r.ends.conns c.args.conn).controller.store)) i
    ∷ (c.owing.ensures ∙ (λ j. owing (k j).controller.opened (k j).controller.grant (k j).controller.owed)) i
    ∷ (c.choose.ensures ∙ (λ j. pick (flows (k j).controller.grant) (c.credits_up-credits.ensures j) 0)) i
    ∷ []
