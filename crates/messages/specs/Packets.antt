-- The controller's messages as packets: a control message of the controller is one packet.
-- Assumes nothing.
use Rattle.std.specs.Prelude.{List, [], ◌∷◌, length, eqb}
use Rattle.octets.specs.Octets.{Octets, pick}
use Rattle.packets.specs.Types.{mt_response, mt_notification}
use Rattle.packets.specs.Packet.{packet_of}
use Rattle.packets.specs.Headers.{control_header}
use Rattle.messages.specs.Layout.{Message}

abbrev pub response_packet : Message → Octets
response_packet m = packet_of (control_header mt_response m.gid m.oid) m.payload

abbrev pub notice_packet : Message → Octets
notice_packet m = packet_of (control_header mt_notification m.gid m.oid) m.payload

-- a notification, where there is one
abbrev pub notice_packets : Message → List Octets
notice_packets m = pick (eqb (length m.payload) 0) [] (notice_packet m ∷ [])
