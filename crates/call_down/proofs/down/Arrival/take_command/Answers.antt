-- `call_down::down::Arrival::take_command` meets its contract: where the segment makes the command whole, by what answers it.
use Rattle.calls.specs.calls.Down.{command_in, answered, command_down}
use Rattle.record.specs.Plan.{with_asking}
use Rattle.state.specs.declared.runs.ControlJoined.{ControlJoined}
use Rattle.std.proofs.Common.{◌+◌, sym, ap, ◌∙◌}
use Rattle.call_down.proofs.down.Arrival.take_command.Goals as goal

pub returns-then-j : goal.returns-then-j
unfolding command_down
returns-then-j c =
    let t = c.args.self.now.after in
    let j = c.join_control-j.ensures in
    let done = sym (ap (λ (k : ControlJoined). k.done) j) ∙ c.if-j.true in
    let b = c.join.ensures in
    λ out. rw done (c.answer.ensures out ∙ (λ i. answered (with_asking (j i).next t) c.args.self.now.header (command_in ((j i).base + c.args.self.now.size) (b i)) (b i) out))
