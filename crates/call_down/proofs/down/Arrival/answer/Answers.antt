-- `call_down::down::Arrival::answer` meets its contract: the command is answered from a local array, the answer goes up and the record is
-- written.
use Rattle.calls.specs.calls.Down.{command_in}
use Rattle.calls.proofs.DownAnswer.{notes_few, answers_short, answer_made}
use Rattle.area.specs.Map.{asking_at}
use Rattle.octets.proofs.Octets.{length_cut, cut_short, cut_copied}
use Rattle.octets.specs.Octets.{Octets, cut}
use Rattle.record.specs.Plan.{with_ends}
use Rattle.std.proofs.Common.{ℕ, ◌-◌, ◌≤◌, length, take, drop, refl, sym, subst, arith}
use Rattle.call_down.proofs.down.Arrival.answer.Goals as goal

-- a part from the front on is no longer than it says
part_short : (n k : ℕ) (l : Octets) → n ≤ k → length (take (n - 0) (drop 0 l)) ≤ k
unfolding cut
part_short n k l h = omega (arith, h, cut_short 0 (n - 0) l)

pub put_answers-n-requires : goal.put_answers-n-requires
put_answers-n-requires c =
    let short = answers_short _ _ _ _ _ _ _ _ _ _ (part_short _ _ _ c.requires.1) c.answer-a.ensures in
    (c.requires.0, c.args.self.now.able.ring, c.requires.2, short.0, short.1)

pub overflow_add-next : goal.overflow_add-next
overflow_add-next c =
    let few = subst (λ (k : ℕ). k ≤ 2) (sym c.put_answers-n.ensures.0) (notes_few _ _ _ _) in
    omega (arith, c.requires.2, few)

pub puts_up-requires : goal.puts_up-requires
puts_up-requires c =
    let few = subst (λ (k : ℕ). k ≤ 2) (sym c.put_answers-n.ensures.0) (notes_few _ _ _ _) in
    omega arith

pub returns : goal.returns
returns c =
    let t = with_ends c.args.ends c.args.self.now.after in
    let h = c.args.self.now.header in
    let a = c.args.area.now in
    let len = c.args.len in
    let put = c.put_answers-n.ensures in
    let long = length_cut asking_at len a (omega (arith, c.requires.0, c.requires.1)) in
    let text = cut_copied _ _ (command_in len a) len long (omega (arith, c.requires.1)) c.hand_out.ensures in
    answer_made t h (command_in len a) _ a _ _ _ _ _ _ _ _ _ _ _ text (omega (arith, long, c.requires.1)) c.values_of.ensures c.answer-a.ensures refl refl put.0 put.1 c.settle.ensures c.encode.ensures c.puts_up.ensures
