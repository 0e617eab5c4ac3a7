-- `messages::layout::credits_ntf` meets its contract. The loop's invariant: the entries before place i are written, up to index at.
use mathlib.Core.Path.{◌≡◌, sym, ◌∙◌}
use native.Mathlib.Omega.{arith}
use lib.ListN.{length, length-map, get_or-map}
use Rattle.state.specs.declared.kinds.Counts.{Counts}
use Rattle.state.specs.Conn.{closed_counts}
use Rattle.messages.specs.Layout.{owed_on, owed_of}
use Rattle.messages.proofs.Messages.{entries_none, entries_turn, entries_all}
use Rattle.messages.proofs.layout.credits_ntf.Goals as goal

pub loop-i-init : goal.loop-i-init
loop-i-init c = entries_none _ _

pub loop-i-preserved : goal.loop-i-preserved
loop-i-preserved c =
    let a = c.args in
    let five : length a.conns ≡ 5 = omega (arith, c.well_formed) in
    entries_turn (owed_of a.conns) (length-map a.conns _ ∙ five) _ _ _ _ _ _ _ _ (omega arith) c.loop-i.invariant
    c.conn_of.ensures
    (c.owing.ensures ∙ sym (get_or-map (λ (k : Counts). owed_on k.controller) a.conns c.loop-i.i closed_counts))
    c.entry-at.ensures.octets c.entry-at.ensures.next

pub returns : goal.returns
returns c =
    let a = c.args in
    let five : length a.conns ≡ 5 = omega (arith, c.well_formed) in
    entries_all a.conns (length-map a.conns _ ∙ five) _ _ _ _ (omega arith) c.loop-i.invariant
