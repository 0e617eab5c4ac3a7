-- `call_down::down::refusal` meets its contract: an empty wire, a packet that is dropped, or the tests of the rules on numbers.
use Rattle.std.proofs.Common.{rules, sym, ◌∙◌}
use Rattle.octets.specs.Octets.{cut}
use Rattle.packets.specs.Packet.{read_of}
use Rattle.std.specs.Prelude.{None}
use Rattle.area.specs.Map.{slot_size}
use Rattle.calls.proofs.Rules.{refuses, passes, asked}
use Rattle.calls.proofs.Down.{down_empty, down_lowest}
use Rattle.call_down.proofs.down.refusal.Goals as goal

pub returns-in_err-when : goal.returns-in_err-when
returns-in_err-when c =
    let w = refuses _ _ _ c.in_err-when.ensures in
    let e = down_empty c.args.area.now c.args.r c.requires.head w.1 in
    search rules

pub returns-in_default : goal.returns-in_default
returns-in_default c =
    let a = c.args.area.now in
    let read = sym (c.read_slot.ensures ∙ (λ i. read_of (cut (c.first_at-slot.ensures i) slot_size a))) ∙ c.in_default.is in
    down_lowest a c.args.r c.requires.head (passes _ _ c.in_ok-when.ensures) None read

pub returns-in_err-when-2 : goal.returns-in_err-when-2
returns-in_err-when-2 c =
    let a = c.args.area.now in
    let read = sym (c.read_slot.ensures ∙ (λ i. read_of (cut (c.first_at-slot.ensures i) slot_size a))) ∙ c.in-Some.is in
    let w = refuses _ _ _ c.in_err-when-2.ensures in
    let e = rw w.1 at (down_lowest a c.args.r c.requires.head (passes _ _ c.in_ok-when.ensures) _ read) in
    search rules

pub returns : goal.returns
returns c =
    let a = c.args.area.now in
    let read = sym (c.read_slot.ensures ∙ (λ i. read_of (cut (c.first_at-slot.ensures i) slot_size a))) ∙ c.in-Some.is in
    let w = passes _ _ c.in_ok-when-2.ensures in
    let e = rw w at (down_lowest a c.args.r c.requires.head (passes _ _ c.in_ok-when.ensures) _ read) in
    rw (c.when-3.ensures, c.store_full.ensures) (asked _ _ ∙ e)
