-- The twelve calls (document 01, "Calls"), and what comes of one.
-- Assumes nothing.
use Rattle.std.specs.Prelude.{ℕ, Bool, true, false, List, [], ◌∷◌, ◌++◌}
use Rattle.octets.specs.Octets.{Octets, pick}
use Rattle.packets.specs.Packet.{read_of}
use Rattle.packets.specs.Reserved.{rfu_by}
use Rattle.model.specs.Kinds.{Way}
use Rattle.model.specs.State.{State, with_down, with_up}

pub data Call : Type 0 where
  fresh : Octets → Call
  power : Call
  command : ℕ → ℕ → Octets → Call
  send : ℕ → Octets → Call
  push : ℕ → Call
  down : Call
  consume : ℕ → Call
  credit : Call
  air : Octets → Call
  reply : Call
  up : Call
  report : ℕ → Call

pub data Result : Type 0 where
  taken : Result
  refused : ℕ → Result

abbrev pub is_taken : Result → Bool
is_taken taken = true
is_taken (refused n) = false

-- what a call does: the drop flag, the reserved bits that it shows, the packets put on each wire, the message handed out, the state after it
pub record Effect : Type 0 where
  pub drop : Bool
  pub rfu : ℕ
  pub to_down : List Octets
  pub to_up : List Octets
  pub message : List Octets
  pub next : State

pub record Outcome : Type 0 where
  pub answer : Result
  pub effect : Effect

abbrev pub quiet : State → Effect
quiet s = record { drop = false; rfu = 0; to_down = []; to_up = []; message = []; next = s }

abbrev pub flagged_as : Bool → State → Effect
flagged_as b s = record { drop = b; rfu = 0; to_down = []; to_up = []; message = []; next = s }

-- packets are put on the down wire
abbrev pub putting_down : List Octets → State → Effect
putting_down ps s = record { drop = false; rfu = 0; to_down = ps; to_up = []; message = []; next = with_down (s.down ++ ps) s }

-- packets are put on the up wire, with a drop flag and a message handed out
abbrev pub putting_up : Bool → List Octets → List Octets → State → Effect
putting_up b ps ms s = record { drop = b; rfu = 0; to_down = []; to_up = ps; message = ms; next = with_up (s.up ++ ps) s }

-- ---- the reserved bits of the packet that a call takes

-- those of the first packet of a wire, as reading shows them
abbrev pub first_rfu : Way → List Octets → ℕ
first_rfu way [] = 0
first_rfu way (p ∷ w) = rfu_by way (read_of p)

-- the same effect, which shows them; where the drop flag is set it shows none
abbrev pub telling : ℕ → Effect → Effect
telling n e =
    record { drop = e.drop; rfu = pick e.drop 0 n; to_down = e.to_down; to_up = e.to_up; message = e.message; next = e.next }
