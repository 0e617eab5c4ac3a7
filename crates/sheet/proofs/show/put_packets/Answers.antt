-- `sheet::show::put_packets` meets its contract: a press, or any other event.
use mathlib.Core.Path.{sym, ◌∙◌}
use mathlib.Core.List.{[]}
use Rattle.calls.specs.Outcome.{outcome}
use Rattle.ascii.proofs.Writing.{wrote_text, wrote_then}
use Rattle.sheet.proofs.Showing.{press_packets, call_packets}
use Rattle.sheet.proofs.show.put_packets.Goals as goal

pub returns-then-is_run : goal.returns-then-is_run
returns-then-is_run c =
    let s = c.args in
    wrote_text (press_packets s.name (outcome s.w s.area.now []) (sym c.is_run.ensures ∙ c.if-is_run.true))
    c.put-n.ensures

pub returns : goal.returns
returns c =
    let s = c.args in
    wrote_text (call_packets s.name (outcome s.w s.area.now []) (sym c.is_run.ensures ∙ c.if-is_run.false))
    (wrote_then _ _ c.put-n.ensures c.put_wires.ensures)
