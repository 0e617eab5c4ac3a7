-- A notification that was written into a buffer: its length, and the packet of the buffer's front.
-- Assumes nothing.
use Prim.Native.Nat.{ℕ, ◌≤◌}
use mathlib.Core.Path.{◌≡◌, ap, ◌∙◌}
use native.Mathlib.Omega.{arith}
use lib.ListN.{length, take}
use Rattle.octets.specs.Octets.{Octets, cut}
use Rattle.octets.proofs.Octets.{cut_same}
use Rattle.packets.specs.Packet.{packet_of}
use Rattle.packets.specs.Headers.{control_header}
use Rattle.messages.specs.declared.layout.Note.{Note}
use Rattle.messages.specs.Layout.{Message, Put}
use Rattle.messages.specs.Packets.{notice_packet}

pub noted_length : {out after : Octets} {m : Message} {note : Note} → Put out m note after → note.len ≡ length m.payload
noted_length p = ap (λ (n : Note). n.len) p.head

pub noted_packet : {out after : Octets} {m : Message} {note : Note} → Put out m note after → length m.payload ≤ length out
    → packet_of (control_header 3 note.gid note.oid) (take note.len after) ≡ notice_packet m
unfolding cut
noted_packet {out} {after} {m} {note} p room =
    λ i. packet_of (control_header 3 (p.head i).gid (p.head i).oid) ((ap (λ (k : ℕ). take k after) (noted_length p) ∙ ap (take (length m.payload)) p.octets ∙ cut_same out 0 m.payload (omega (arith, room))) i)
