-- `sheet::show::put_message` meets its contract: no message, an empty one, or its octets.
use mathlib.Core.Path.{sym, ap, ◌∙◌}
use mathlib.Core.List.{[], ◌++◌}
use mathlib.Core.Bool.{false≢true}
use borrow.Author.Tests.{eq-eqb, eqb-true}
use lib.ListN.{length}
use Rattle.octets.specs.Octets.{Octets, cut}
use Rattle.ascii.specs.Digits.{hex_of}
use Rattle.sheet.specs.Show.{msg_label}
use Rattle.sheet.proofs.Showing.{message_none, message_empty, message_some}
use Rattle.ascii.proofs.Writing.{wrote_text, wrote_then}
use Rattle.sheet.proofs.show.put_message.Goals as goal

pub returns-then-not-handed : goal.returns-then-not-handed
returns-then-not-handed c =
    let none = message_none c.args.w [] c.args.out.now (sym c.handed.ensures ∙ c.if-not-handed.true) in
    wrote_text (ap (λ (l : Octets). msg_label ++ l) (sym none)) c.put-n.ensures

pub returns-then-is_empty : goal.returns-then-is_empty
returns-then-is_empty c =
    let s = c.args in
    let handed = sym c.handed.ensures ∙ c.if-not-handed.false in
    let part = c.window-message.ensures ∙ (λ i. cut 0 (c.length.ensures i) s.out.now) in
    let dash = message_empty s.w [] s.out.now handed (ap length (sym part) ∙ eqb-true _ _ (sym c.is_empty.ensures ∙ c.if-is_empty.true)) in
    wrote_text (ap (λ (l : Octets). msg_label ++ l) (sym dash)) (wrote_then _ _ c.put-n.ensures c.put.ensures)

pub returns : goal.returns
returns c =
    let s = c.args in
    let handed = sym c.handed.ensures ∙ c.if-not-handed.false in
    let part = c.window-message.ensures ∙ (λ i. cut 0 (c.length.ensures i) s.out.now) in
    let some = message_some s.w [] s.out.now handed (λ e. false≢true (sym c.if-is_empty.false ∙ c.is_empty.ensures ∙ eq-eqb _ _ (ap length part ∙ e))) in
    wrote_text (ap (λ (l : Octets). msg_label ++ l) (ap hex_of part ∙ sym some)) (wrote_then _ _ c.put-n.ensures c.put_octets.ensures)
