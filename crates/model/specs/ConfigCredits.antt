-- No set or get of the configuration changes any credits (change 5): the five numbers of every connection are the same before and after each call that puts,
-- takes, answers or reads a packet of CORE_SET_CONFIG or CORE_GET_CONFIG, or of their responses.
-- Assumes nothing.
use Rattle.std.specs.Prelude.{ℕ, ◌≡◌, Bool, true, ◌&&◌, ◌||◌, List, ◌∷◌, eqb}
use Rattle.octets.specs.Octets.{Octets}
use Rattle.packets.specs.Segments.{Segment}
use Rattle.state.specs.Names.{gid_core, oid_set_config, oid_get_config}
use Rattle.wires.specs.Meaning.{control, meaning}
use Rattle.model.specs.State.{State}
use Rattle.model.specs.Effects.{command, down, up}
use Rattle.model.specs.Bench.{step}
use Rattle.model.specs.calls.Report.{report_of}

abbrev pub is_config : ℕ → ℕ → Bool
is_config gid oid = eqb gid gid_core && (eqb oid oid_set_config || eqb oid oid_get_config)

-- of a bench s and a connection c. A packet is known by its GID and OID and may have any MT and be any segment: on a bench that no calls made, a command may
-- lie on the up wire, and a response on the down wire
pub record CreditsKept (s : State) (c : ℕ) : Type 0 where
  -- the command is put on the down wire
  pub put : (gid oid : ℕ) (m : Octets) → is_config gid oid ≡ true → report_of c (step (command gid oid m) s).effect.next ≡ report_of c s
  -- a packet is taken from it, and a command that it makes whole is answered
  pub answered : (p : Octets) (w : List Octets) (mt gid oid : ℕ) (x : Segment) → s.down ≡ p ∷ w → meaning p ≡ control mt gid oid x
      → is_config gid oid ≡ true → report_of c (step down s).effect.next ≡ report_of c s
  -- a packet is read from the up wire
  pub heard : (p : Octets) (w : List Octets) (mt gid oid : ℕ) (x : Segment) → s.up ≡ p ∷ w → meaning p ≡ control mt gid oid x
      → is_config gid oid ≡ true → report_of c (step up s).effect.next ≡ report_of c s

-- of every bench, whether calls made it or not
abbrev pub AllCreditsKept : Type 0
AllCreditsKept = (s : State) (c : ℕ) → CreditsKept s c
