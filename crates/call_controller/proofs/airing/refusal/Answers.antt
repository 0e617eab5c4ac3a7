-- `call_controller::airing::refusal` meets its contract: its tests are those of the rules on numbers.
use Rattle.std.proofs.Common.{rules, sym, ap, ◌∙◌, arith}
use Rattle.std.proofs.lemmas.Grind.{common_steps}
use Rattle.calls.specs.Outcome.{lowest}
use Rattle.calls.proofs.Rules.{refuses, passes}
use Rattle.call_controller.proofs.Events.{event_law}
use Rattle.call_controller.proofs.airing.refusal.Goals as goal

pub returns-in_err-when-2 : goal.returns-in_err-when-2
unfolding lowest
returns-in_err-when-2 c = λ a. grind (arith, common_steps) ∙ sym (ap lowest (event_law a c.args.r c.args.m.now c.event_of-e.result c.event_of-e.ensures))

pub returns-in_err-when-3 : goal.returns-in_err-when-3
unfolding lowest
returns-in_err-when-3 c = λ a. (let p = passes _ _ c.in_ok-when.ensures in let q = passes _ _ c.in_ok-when-2.ensures in let w = refuses _ _ _ c.in_err-when-3.ensures in rw (c.is_none.ensures, ← c.spoken_in-spoken.ensures, p, q, w.1) (search rules)) ∙ sym (ap lowest (event_law a c.args.r c.args.m.now c.event_of-e.result c.event_of-e.ensures))

pub returns-in_err-when-4 : goal.returns-in_err-when-4
unfolding lowest
returns-in_err-when-4 c = λ a. (let p = passes _ _ c.in_ok-when.ensures in let q = passes _ _ c.in_ok-when-2.ensures in let r = passes _ _ c.in_ok-when-3.ensures in let w = refuses _ _ _ c.in_err-when-4.ensures in rw (c.is_none.ensures, ← c.spoken_in-spoken.ensures, ← c.judge_event-aired.ensures, c.is_none-2.ensures, p, q, r, w.1) (search rules)) ∙ sym (ap lowest (event_law a c.args.r c.args.m.now c.event_of-e.result c.event_of-e.ensures))

pub returns : goal.returns
unfolding lowest
returns c = λ a. grind (arith, common_steps) ∙ sym (ap lowest (event_law a c.args.r c.args.m.now c.event_of-e.result c.event_of-e.ensures))
