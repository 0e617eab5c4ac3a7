-- The invariant of demand 3, fourth part: commands and answers on the wires, which of them are under way and what lies behind them.
-- Assumes nothing.
use Rattle.std.specs.Prelude.{ℕ, ◌<◌, ◌≡◌, Bool, true, false, List, [], ◌∷◌, ◌++◌, eqb, Option, Some, None}
use Rattle.octets.specs.Octets.{Octets, pick}
use Rattle.state.specs.Commands.{aim_in}
use Rattle.packets.specs.Segments.{Segment, more, last, parse, left}
use Rattle.packets.specs.Reassembly.{run, Fit}
use Rattle.model.specs.Kinds.{Asked}
use Rattle.state.specs.Runs.{control_limit}
use Rattle.wires.specs.Meaning.{Meaning, datum, control, junk, meaning}
use Rattle.model.specs.State.{ControlRun}
use Rattle.model.specs.Runs.{run_for}
use Rattle.model.specs.calls.Down.{needs_two}
use Rattle.model.specs.Reachable.{Each}

-- ---- commands by their names

-- a command's GID and OID
pub record Name : Type 0 where
  pub gid : ℕ
  pub oid : ℕ

abbrev pub named : ℕ → ℕ → Name
named gid oid = record { gid = gid; oid = oid }

-- the commands whose last packet lies on the down wire
abbrev pub heads_in : Meaning → List Name
heads_in (datum c n x) = []
heads_in (control mt gid oid (more b)) = []
heads_in (control mt gid oid (last b)) = pick (eqb mt 1) (named gid oid ∷ []) []
heads_in junk = []

unfoldable pub heads : List Octets → List Name
heads [] = []
heads (p ∷ w) = heads_in (meaning p) ++ heads w

-- the commands answered on the up wire
abbrev pub replies_in : Meaning → List Name
replies_in (datum c n x) = []
replies_in (control mt gid oid x) = pick (eqb mt 2) (named gid oid ∷ []) []
replies_in junk = []

unfoldable pub replies : List Octets → List Name
replies [] = []
replies (p ∷ w) = replies_in (meaning p) ++ replies w

-- the command that the host has unanswered
abbrev pub pending_name : Option Asked → List Name
pending_name None = []
pending_name (Some a) = named a.gid a.oid ∷ []

-- ---- no data behind a command that closes

-- one of two statements, by a test
abbrev pub Which : Bool → Type 0 → Type 0 → Type 0
Which true A B = A
Which false A B = B

-- a packet that is not data
abbrev pub NoDatum : Meaning → Type 0
NoDatum (datum c n x) = ⊥
NoDatum (control mt gid oid x) = Unit {0}
NoDatum junk = Unit {0}

abbrev pub NoData : List Octets → Type 0
NoData = Each (λ p. NoDatum (meaning p))

-- no data behind the first command's last packet (the one for whose answer down needs two slots)
unfoldable pub Tidy : List Octets → Type 0
Tidy [] = Unit {0}
Tidy (p ∷ w) = Which (needs_two (meaning p)) (NoData w) (Tidy w)

-- ---- the command that is on its way to the controller

-- the segments of commands on the down wire
abbrev pub orders_in : Meaning → List Segment
orders_in (datum c n x) = []
orders_in (control mt gid oid x) = pick (eqb mt 1) (x ∷ []) []
orders_in junk = []

unfoldable pub orders : List Octets → List Segment
orders [] = []
orders (p ∷ w) = orders_in (meaning p) ++ orders w

abbrev pub NonEmpty : List Segment → Type 0
NonEmpty [] = ⊥
NonEmpty (x ∷ xs) = Unit {0}

-- each message among the segments has its last
abbrev pub Complete : List Segment → Type 0
Complete [] = Unit {0}
Complete (more b ∷ ss) = NonEmpty ss × Complete ss
Complete (last b ∷ ss) = Complete ss

-- a packet of this command, or of none
abbrev pub NamedIn : Name → Meaning → Type 0
NamedIn n (datum c m x) = Unit {0}
NamedIn n (control mt gid oid x) = eqb mt 1 ≡ true → named gid oid ≡ n
NamedIn n junk = Unit {0}

abbrev pub AllNamed : Name → List Octets → Type 0
AllNamed n = Each (λ p. NamedIn n (meaning p))

-- it names the connection `aim`, if it names one
abbrev pub Aims : ℕ → Name → Octets → Type 0
Aims aim n m = aim_in m ≡ aim

-- r is the controller's run of control packets, w the down wire, P what is known of a command that was taken, by its name and its payload
pub record OnItsWay (P : Name → Octets → Type 0) (r : ControlRun) (w : List Octets) : Type 0 where
  -- the command, by a GID and an OID that a header holds
  pub name : Name
  pub low : name.gid < 16
  pub small : name.oid < 64
  -- its octets that have arrived: they are the controller's run, which is not lost, and which its packets join
  pub so_far : Octets
  pub kept : r.run ≡ run so_far
  pub mine : run_for r 1 name.gid name.oid ≡ run so_far
  -- every command packet on the wire is one of its packets
  pub of_one : AllNamed name w
  -- the last of them is there too, and nothing is left over behind it
  pub complete : Complete (orders w)
  pub whole : left so_far (orders w) ≡ []
  -- the whole command still to be judged is as it was taken, and within the limit
  pub as_taken : Each (P name) (parse so_far (orders w))
  pub fits : Fit control_limit (parse so_far (orders w))
