-- Credits within the grant. Until change 7 a consume or an up that would bring credits past a grant was refused with number 13; no list of calls from a
-- fresh bench ever meets that (`NeverPast` in Reachable), so the bench no longer asks. What 13 asked stays here, for what is proved of it.
-- Assumes nothing.
use Rattle.std.specs.Prelude.{ℕ, ◌+◌, ◌%◌, ◌≤◌, ◌≡◌, Bool, true, false, not, ◌&&◌, ◌||◌, List, [], ◌∷◌, ◌++◌, eqb, ltb, leb}
use Rattle.octets.specs.Octets.{Octets}
use Rattle.packets.specs.Types.{mt_command}
use Rattle.packets.specs.Segments.{Segment}
use Rattle.model.specs.Kinds.{Heard}
use Rattle.state.specs.Conn.{flows}
use Rattle.dh.specs.Host.{hear_of}
use Rattle.wires.specs.Meaning.{Meaning, datum, control, junk, meaning}
use Rattle.ends.specs.Changes.{credits_of, change_heard}
use Rattle.model.specs.Connection.{Connection}
use Rattle.model.specs.State.{State}
use Rattle.model.specs.Effects.{Call, fresh, power, command, send, push, down, consume, credit, air, reply, up, report, taken}
use Rattle.model.specs.Refusals.{Rule, rule, no_conn, ids, is_held}
use Rattle.model.specs.Runs.{whole_by}
use Rattle.model.specs.Bench.{rules, step}

-- no connection has more credits held or owed than granted: what row 1 asks of a record's credits
pub record ConnWithin (k : Connection) : Type 0 where
  pub held : k.host.held ≤ k.host.grant
  pub owed : k.controller.owed ≤ k.controller.grant

abbrev pub WithinGrants : State → Type 0
WithinGrants s = (d : ℕ) → no_conn d ≡ false → ConnWithin (s.conns d)

-- ---- what 13 asked of consume

-- the whole grant is owed, so that one credit more would pass it
abbrev pub owes_all : State → ℕ → Bool
owes_all s c = flows (s.conns c).controller.grant && leb (s.conns c).controller.grant (s.conns c).controller.owed

-- ---- of up

-- n credits would bring a connection above its grant
abbrev pub passing : State → ℕ → ℕ → Bool
passing s c n = is_held s c && flows (s.conns c).host.grant && ltb (s.conns c).host.grant ((s.conns c).host.held + n)

-- those of a notice
abbrev pub above : State → Heard → Octets → ℕ → Bool
above s h m c = passing s c (credits_of (change_heard h m c))

unfoldable pub any_of : (ℕ → Bool) → List ℕ → Bool
any_of f [] = false
any_of f (c ∷ cs) = f c || any_of f cs

abbrev pub above_in : State → ℕ → ℕ → ℕ → List Octets → Bool
above_in s mt gid oid [] = false
above_in s mt gid oid (m ∷ ms) = any_of (above s (hear_of s.host.pending mt gid oid m) m) ids

-- those that the first packet of the up wire brings
abbrev pub too_many : State → Meaning → Bool
too_many s (datum c n x) = passing s c n
too_many s (control mt gid oid x) = not (eqb mt mt_command) && above_in s mt gid oid (whole_by s.hearing mt gid oid x)
too_many s junk = false

abbrev pub first_too_many : State → List Octets → Bool
first_too_many s [] = false
first_too_many s (p ∷ w) = too_many s (meaning p)

-- ---- of a call

abbrev pub past_grant : Call → State → Bool
past_grant (fresh m) s = false
past_grant power s = false
past_grant (command gid oid m) s = false
past_grant (send c m) s = false
past_grant (push c) s = false
past_grant down s = false
past_grant (consume c) s = owes_all s c
past_grant credit s = false
past_grant (air m) s = false
past_grant reply s = false
past_grant up s = first_too_many s s.up
past_grant (report c) s = false

-- the rules with it: 13 stood last
abbrev pub checked_rules : Call → State → List Rule
checked_rules c s = rules c s ++ (rule 13 (past_grant c s) ∷ [])

-- ---- what is done instead: "takes the credits modulo 256", on any bench, whether calls made it or not

pub record Wraps (s : State) : Type 0 where
  -- a consume of 0 that is taken owes one credit more; on a loopback the packet that goes up gives it back
  pub owed : (step (consume 0) s).answer ≡ taken → flows (s.conns 0).controller.grant ≡ true
      → ((step (consume 0) s).effect.next.conns 0).controller.owed ≡ ((s.conns 0).controller.owed + 1) % 256
  -- data with n credits, read on a connection that is open at the host
  pub held : (c n : ℕ) (x : Segment) (p : Octets) (w : List Octets) → s.up ≡ p ∷ w → meaning p ≡ datum c n x → is_held s c ≡ true → flows (s.conns c).host.grant ≡ true
      → ((step up s).effect.next.conns c).host.held ≡ ((s.conns c).host.held + n) % 256

abbrev pub AllWrap : Type 0
AllWrap = (s : State) → Wraps s
