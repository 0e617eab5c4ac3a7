-- The credits on the up wire as report counts them: by the header of every packet, looking into three messages alone. `Tally` says what they
-- are by what every message says; both are the same of any packets.
-- Assumes nothing.
use Rattle.std.specs.Prelude.{ℕ, ◌+◌, Bool, ◌&&◌, List, [], ◌∷◌, eqb, Some, None, Option}
use Rattle.octets.specs.Octets.{Octets, pick}
use Rattle.packets.specs.Types.{mt_data, mt_response, mt_notification}
use Rattle.packets.specs.declared.Header.{Header}
use Rattle.packets.specs.Packet.{Reading, read_of, payload_of}
use Rattle.state.specs.Names.{gid_core, gid_rf, oid_conn_create, oid_conn_credits, oid_activated}
use Rattle.state.specs.declared.commands.Command.TheVariants as command
use Rattle.dh.specs.declared.contents.Notice.TheVariants as notice
use Rattle.dh.specs.declared.host.Heard.TheVariants.{Answered}
use Rattle.dh.specs.Contents.{credits_written, create_written, activated_written}
use Rattle.dh.specs.Host.{ok_answer, noticed}
use Rattle.wires.specs.Tally.{credits_said}
use Rattle.wires.specs.declared.up.Inside.{Inside}
use Rattle.wires.specs.declared.up.Inside.TheVariants.{CreditsNtf, ActivatedNtf, CreateRsp}

-- ---- what the header says is inside

-- it is a packet of the control message with this MT, GID and OID; the spare bits of octet 1 are no part of the OID
abbrev pub is_named : Header → ℕ → ℕ → ℕ → Bool
is_named h mt gid oid = eqb h.mt mt && eqb h.id gid && eqb h.oid oid

-- of a packet with this header, which states n octets of payload. A segment that is not the last of its message is none of the three, and the
-- response that opens a connection has four octets
unfoldable pub inside_of : Header → ℕ → Option Inside
inside_of h n =
    pick h.pbf None
    (pick (is_named h mt_notification gid_core oid_conn_credits) (Some CreditsNtf)
    (pick (is_named h mt_notification gid_rf oid_activated) (Some ActivatedNtf)
    (pick (is_named h mt_response gid_core oid_conn_create && eqb n 4) (Some CreateRsp) None)))

-- a packet that is dropped has nothing inside
abbrev pub inside_in : Reading → Option Inside
inside_in (Some (h, n)) = inside_of h n
inside_in None = None

-- ---- the credits inside

-- those of what it says; contents never written here say nothing
abbrev pub credits_inside : ℕ → Octets → Option Inside → ℕ
credits_inside c m (Some CreditsNtf) = pick (credits_written m) (credits_said c m (noticed (Some notice.Credits) m)) 0
credits_inside c m (Some ActivatedNtf) = pick (activated_written m) (credits_said c m (noticed (Some notice.Activated) m)) 0
credits_inside c m (Some CreateRsp) = pick (create_written m) (credits_said c m (Answered (ok_answer command.ConnCreate 0 m))) 0
credits_inside c m None = 0

-- ---- a packet, and the wire

-- data has them in its header
abbrev pub counted_in : ℕ → Octets → Reading → ℕ
counted_in c p (Some (h, n)) =
    pick (eqb h.mt mt_data) (pick (eqb h.id c) h.credits 0) (credits_inside c (payload_of p n) (inside_of h n))
counted_in c p None = 0

abbrev pub counted_on : ℕ → Octets → ℕ
counted_on c p = counted_in c p (read_of p)

unfoldable pub counted_up : ℕ → List Octets → ℕ
counted_up c [] = 0
counted_up c (p ∷ w) = counted_on c p + counted_up c w
