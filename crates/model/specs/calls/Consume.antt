-- consume: the controller takes the oldest stored packet into reassembly; on a loopback it also goes up, unchanged but for the credits
-- that it carries (003, 3.4.3).
-- Assumes nothing.
use Rattle.std.specs.Prelude.{ℕ, Bool, true, not, ◌&&◌, List, [], ◌∷◌, eqb}
use Rattle.octets.specs.Octets.{Octets, pick}
use Rattle.packets.specs.Packet.{carrying}
use Rattle.packets.specs.Segments.{Segment}
use Rattle.packets.specs.Reassembly.{Run, grown, finished, flagged}
use Rattle.state.specs.Runs.{data_limit}
use Rattle.model.specs.Connection.{ControllerEnd, with_controller, consumed, carried_on, paid}
use Rattle.wires.specs.Meaning.{Meaning, datum, control, junk, meaning}
use Rattle.model.specs.State.{State, is_open, at, with_conns}
use Rattle.model.specs.Effects.{Effect, quiet, putting_up}
use Rattle.model.specs.Refusals.{Rule, rule, is_nil, no_conn, full}

-- a loopback is any connection but 0
abbrev pub is_loop : ℕ → Bool
is_loop c = not (eqb 0 c)

-- the packet that goes up, with n credits
abbrev pub echo : ℕ → ℕ → Octets → List Octets
echo c n p = pick (is_loop c) (carrying n p ∷ []) []

-- the connection once the packet has gone up, if it goes: what it carries is no longer owed
abbrev pub echoed : Bool → ControllerEnd → ControllerEnd
echoed goes k =
    record {
      opened = k.opened;
      grant = k.grant;
      owed = pick goes (paid k).owed k.owed;
      store = k.store;
      run = k.run;
      speech = k.speech;
    }

-- the segment of a stored packet; one that cannot be read has none, and is dropped
abbrev pub segment_in : Meaning → List Segment
segment_in (datum c n x) = x ∷ []
segment_in (control mt gid oid x) = x ∷ []
segment_in junk = []

abbrev pub joined_run : Run → List Segment → Run
joined_run r [] = r
joined_run r (x ∷ xs) = grown data_limit r x

abbrev pub joined_message : Run → List Segment → List Octets
joined_message r [] = []
joined_message r (x ∷ xs) = finished data_limit r x

abbrev pub joined_flag : Run → List Segment → Bool
joined_flag r [] = true
joined_flag r (x ∷ xs) = flagged data_limit r x

-- the connection with the packet taken and its credit owed: what goes up carries of that
abbrev pub joined_end : List Segment → List Octets → ControllerEnd → ControllerEnd
joined_end xs rest k = consumed rest (joined_run k.run xs) k

abbrev pub consumed_as : ℕ → List Segment → Octets → List Octets → State → Effect
consumed_as c xs p rest s =
    putting_up (joined_flag (s.conns c).controller.run xs) (echo c (carried_on (joined_end xs rest (s.conns c).controller)) p) (joined_message (s.conns c).controller.run xs)
    (with_conns (at c (λ k. with_controller (echoed (is_loop c) (joined_end xs rest k.controller)) k) s.conns) s)

abbrev pub consuming : ℕ → List Octets → State → Effect
consuming c [] s = quiet s
consuming c (p ∷ rest) s = consumed_as c (segment_in (meaning p)) p rest s

-- ---- refusals

abbrev pub consume_rules : ℕ → State → List Rule
consume_rules c s =
    rule 3 (no_conn c)
    ∷ rule 4 (is_loop c && full 1 s.up)
    ∷ rule 6 (not (is_open s c))
    ∷ rule 8 (is_nil (s.conns c).controller.store)
    ∷ []
