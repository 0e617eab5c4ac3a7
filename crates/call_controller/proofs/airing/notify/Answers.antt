-- `call_controller::airing::notify` meets its contract: there is a notification, what is written from the buffer is that, and no
-- more, and the slot is the first free one.
use native.Mathlib.Omega.{arith}
use mathlib.Core.Path.{sym, ◌∙◌}
use mathlib.Core.Bool.{false≢true}
use lib.Dec.{eqb}
use lib.ListN.{length}
use Rattle.octets.specs.Octets.{splice}
use Rattle.messages.specs.Packets.{notice_packet}
use Rattle.messages.proofs.Messages.{put_noted, none_noted}
use Rattle.air.specs.Air.{event_of, air_message}
use Rattle.air.proofs.Room.{event_room}
use Rattle.air.proofs.Spoken.{notified, taken_known}
use Rattle.call_controller.proofs.Noted.{noted_length, noted_packet}
use Rattle.call_controller.proofs.airing.notify.Goals as goal

pub air_message-requires : goal.air_message-requires
air_message-requires c = event_room c.args.r.ends.profile c.args.m.now c.event_of.result c.event_of.ensures

pub put_noted-requires : goal.put_noted-requires
put_noted-requires c =
    let short = event_room c.args.r.ends.profile c.args.m.now c.event_of.result c.event_of.ensures in
    let p = c.requires.2 in
    (omega (arith, short, noted_length (put_noted c.in-Some.ensures)), omega (arith, c.requires.0, p.free c.requires.1, p.ring.head, c.free_at-slot.ensures))

pub returns-in-Some : goal.returns-in-Some
returns-in-Some c =
    let p = c.args.r.ends.profile in
    let m = c.args.m.now in
    let packet = noted_packet (put_noted c.in-Some.ensures) (event_room p m c.event_of.result c.event_of.ensures) in
    c.put_noted.ensures
    ∙ (λ i. splice c.args.area.now (c.free_at-slot.ensures i) ((packet ∙ (λ j. notice_packet (air_message p (c.event_of.ensures j) m))) i))

pub returns-in_default : goal.returns-in_default
returns-in_default c =
    let p = c.args.r.ends.profile in
    let k = c.args.r.ends.controller in
    let m = c.args.m.now in
    let there = notified p (event_of m) m (taken_known k.rf k.pairs (event_of m) c.requires.2.taken) in
    let none = none_noted c.in_default.ensures in
    absurd (false≢true (sym c.requires.1 ∙ sym there ∙ (λ i. eqb (length (air_message p (sym c.event_of.ensures i) m).payload) 0) ∙ none))
