-- What a packet on a wire counts for: data of a connection going down, credits and grants going up. Credits of data going down are
-- ignored.
-- Assumes nothing.
use Rattle.std.specs.Prelude.{ℕ, ◌+◌, Bool, false, List, [], ◌∷◌, eqb, Option, Some}
use Rattle.octets.specs.Octets.{Octets, pick}
use Rattle.state.specs.Names.{gid_core, oid_conn_close}
use Rattle.packets.specs.Types.{mt_command}
use Rattle.packets.specs.Segments.{more, last}
use Rattle.state.specs.declared.kinds.Asked.{Asked}
use Rattle.state.specs.Conn.{metered}
use Rattle.dh.specs.declared.host.Answer.TheVariants.{Done, ClosesAll, Sized, Opens, Closes}
use Rattle.dh.specs.declared.host.Heard.{Heard}
use Rattle.dh.specs.declared.host.Heard.TheVariants.{Nothing, Dropped, Answered, Activated, Deactivated, Credits}
use Rattle.dh.specs.Contents.{written}
use Rattle.dh.specs.Host.{heard_written, credits_for}
use Rattle.wires.specs.Meaning.{Meaning, datum, control, junk, meaning}

-- ---- the down wire

-- it holds data of a connection
abbrev pub is_data_for : ℕ → Meaning → Bool
is_data_for c (datum d n x) = eqb d c
is_data_for c (control mt gid oid x) = false
is_data_for c junk = false

unfoldable pub data_count : ℕ → List Octets → ℕ
data_count c [] = 0
data_count c (p ∷ w) = pick (is_data_for c (meaning p)) 1 0 + data_count c w

-- ---- the up wire: what a packet says, to a reader who knows which connection `aim` the last CONN_CLOSE named

abbrev pub aimed_at : ℕ → Option Asked
aimed_at aim = Some (record { gid = gid_core; oid = oid_conn_close; aim = aim })

-- contents never written here say nothing
abbrev pub says : ℕ → ℕ → ℕ → ℕ → Octets → Heard
says aim mt gid oid m = pick (written mt gid oid m) (heard_written (aimed_at aim) mt gid oid m) Nothing

abbrev pub says_in : ℕ → Meaning → Heard
says_in aim (datum c n x) = Nothing
says_in aim (control mt gid oid (more b)) = Nothing
says_in aim (control mt gid oid (last m)) = pick (eqb mt mt_command) Nothing (says aim mt gid oid m)
says_in aim junk = Nothing

-- its octets, where it is a whole control message
abbrev pub contents : Meaning → Octets
contents (datum c n x) = []
contents (control mt gid oid (more b)) = []
contents (control mt gid oid (last m)) = m
contents junk = []

-- the credits that a heard message has for a connection: those of a notice, or the grant of what opens it, which counts as nothing where
-- there is no flow control
abbrev pub credits_said : ℕ → Octets → Heard → ℕ
credits_said c m Nothing = 0
credits_said c m Dropped = 0
credits_said c m (Answered Done) = 0
credits_said c m (Answered ClosesAll) = 0
credits_said c m (Answered (Sized n)) = 0
credits_said c m (Answered (Opens d t)) = pick (eqb d c) (metered t.credits) 0
credits_said c m (Answered (Closes d)) = 0
credits_said c m (Activated t) = pick (eqb 0 c) (metered t.credits) 0
credits_said c m Deactivated = 0
credits_said c m Credits = credits_for m c

-- credits for a connection on the up wire: those that data carries, and those of control messages; which connection a CONN_CLOSE named
-- makes no difference here
abbrev pub credits_meant : ℕ → Meaning → ℕ
credits_meant c (datum d n x) = pick (eqb d c) n 0
credits_meant c (control mt gid oid x) = credits_said c (contents (control mt gid oid x)) (says_in 0 (control mt gid oid x))
credits_meant c junk = 0

abbrev pub credits_on : ℕ → Octets → ℕ
credits_on c p = credits_meant c (meaning p)

unfoldable pub credits_up : ℕ → List Octets → ℕ
credits_up c [] = 0
credits_up c (p ∷ w) = credits_on c p + credits_up c w
