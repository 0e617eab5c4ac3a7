-- `sheet::show::put_packet` meets its contract: what is handed out, or nothing.
use mathlib.Core.Path.{sym, ap, ◌∙◌}
use Rattle.octets.specs.Octets.{cut}
use Rattle.calls.specs.Outcome.{Outcome}
use Rattle.calls.specs.Packet.{handed_by}
use Rattle.ascii.specs.Digits.{hex_of}
use Rattle.sheet.specs.Show.{joined}
use Rattle.sheet.proofs.Showing.{joined_one, joined_none}
use Rattle.ascii.proofs.Writing.{wrote_text, wrote_nothing}
use Rattle.sheet.proofs.show.put_packet.Goals as goal

pub returns-then-handed : goal.returns-then-handed
returns-then-handed c =
    wrote_text
    (ap hex_of
    (c.window.ensures
    ∙ (λ i. cut 0 (c.length.ensures i) c.nci_packet-w.new.out)
    ∙ joined_one _ _ _ (sym c.handed.ensures ∙ c.if-handed.true)
    ∙ ap (λ (o : Outcome). joined (handed_by o)) c.nci_packet-w.ensures))
    c.put_octets.ensures

pub returns : goal.returns
unfolding hex_of
returns c =
    wrote_text
    (ap hex_of
    (joined_none _ _ _ (sym c.handed.ensures ∙ c.if-handed.false) ∙ ap (λ (o : Outcome). joined (handed_by o)) c.nci_packet-w.ensures))
    (wrote_nothing _ _ c.requires)
