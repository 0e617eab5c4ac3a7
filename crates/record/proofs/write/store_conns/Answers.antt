-- `record::write::store_conns` meets its contract: after the loop all five are stored.
use Rattle.std.proofs.Common.{rules, arith, ◌≡◌, ap, ◌∙◌, ℕ}
use Rattle.record.proofs.Writing.{stored_to, all_stored}
use Rattle.record.proofs.write.store_conns.Goals as goal

pub returns : goal.returns
returns c =
    let a = c.args in
    let all : c.loop-k.k ≡ 5 = omega (arith, c.loop-k.invariant, c.loop-k-test.false) in
    let stored : c.loop-k.area ≡ stored_to a.area.now a.at a.conns c.loop-k.k = search rules in
    stored ∙ ap (λ (n : ℕ). stored_to a.area.now a.at a.conns n) all ∙ all_stored a.area.now a.at a.conns
