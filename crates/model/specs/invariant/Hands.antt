-- The invariant of change 8, beside that of demand 3: the diary has what is in hand at the host, and where each message was taken.
-- Assumes nothing.
use Rattle.std.specs.Prelude.{ℕ, ◌<◌, ◌≡◌, true, length, Option, Some, None}
use Rattle.model.specs.Kinds.{Asked}
use Rattle.dh.specs.Host.{is_closing}
use Rattle.model.specs.Connection.{HostEnd, Connection}
use Rattle.model.specs.Discards.{Hand, Diary}

-- one connection at the host
pub record Told (h : HostEnd) (k : Hand) : Type 0 where
  -- the payload at which messages are cut
  pub payload : h.opened ≡ true → k.payload ≡ h.payload
  -- the segments in hand
  pub left : k.left ≡ length h.hand

-- the unanswered command has this GID and OID
abbrev pub Named : Option Asked → ℕ → ℕ → Type 0
Named None gid oid = Unit {0}
Named (Some a) gid oid = (a.gid ≡ gid) × (a.oid ≡ oid)

-- the host with the unanswered command p and the connections g, and the diary n
pub record Marked (p : Option Asked) (g : ℕ → Connection) (n : Diary) : Type 0 where
  pub told : (d : ℕ) → Told (g d).host (n.hand d)
  -- the unanswered command is the last that was taken
  pub latest : Named p n.gid n.oid
  -- what is in hand was taken by a call before this
  pub past : (d : ℕ) → 0 < (n.hand d).left → (n.hand d).sent_at < n.calls
  -- and before a RESET or a CONN_CLOSE that is unanswered
  pub before : is_closing p ≡ true → (d : ℕ) → 0 < (n.hand d).left → (n.hand d).sent_at < n.command_at
