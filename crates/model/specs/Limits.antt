-- The limits that document 01 names under "Numbers for a call not taken", played as the rows of the table are: the last that is taken,
-- and the first that is refused. An area of 36,863 octets comes with the octets.
-- Assumes nothing.
use Rattle.std.specs.Prelude.{ℕ, zero, suc, List, [], ◌∷◌, ◌++◌}
use Rattle.octets.specs.Octets.{Octets}
use Rattle.model.specs.Effects.{command, send, push, down, consume}
use Rattle.model.specs.Observer.{Event}
use Rattle.model.specs.Table.{shows, goes_down, goes_up, quietly, refusal, ready_with, opened}

-- n octets 00
abbrev pub blank : ℕ → Octets
blank zero = []
blank (suc n) = 0x00 ∷ blank n

abbrev pub times : ℕ → List Event → List Event
times zero es = []
times (suc n) es = es ++ times n es

-- connection 2 is open, with payload 1 and no flow control
abbrev pub free : List Event
free = ready_with (0x20 ∷ 0x01 ∷ 0xFF ∷ 0x04 ∷ 0x01 ∷ []) ++ opened 0x01 0xFF 0x02

-- a message of 32 packets, and one of its packets but the last: pushed, or pushed, taken, consumed and so put on the up wire
abbrev pub long : List Event
long = free ++ quietly (send 2 (blank 32)) ∷ []

abbrev pub one_pushed : List Event
one_pushed = goes_down (push 2) (0x12 ∷ 0x00 ∷ 0x01 ∷ 0x00 ∷ []) ∷ []

abbrev pub one_returned : List Event
one_returned = one_pushed ++ quietly down ∷ goes_up (consume 2) (0x12 ∷ 0x00 ∷ 0x01 ∷ 0x00 ∷ []) ∷ []

-- P: what it is to play them
pub record Limits (P : List Event → Type 0) : Type 0 where
  -- "a send of 1,024 octets", "1,025"
  pub send_1024 : P (free ++ quietly (send 2 (blank 1024)) ∷ [])
  pub send_1025 : P (free ++ refusal (send 2 (blank 1025)) 3 ∷ [])
  -- "a push with the down wire at 15", "at 16"
  pub push_at_15 : P (long ++ times 15 one_pushed ++ one_pushed)
  pub push_at_16 : P (long ++ times 16 one_pushed ++ refusal (push 2) 4 ∷ [])
  -- "an eighth packet stored", "a ninth"
  pub eighth_stored : P (long ++ times 9 one_pushed ++ times 7 (quietly down ∷ []) ++ quietly down ∷ [])
  pub ninth_stored : P (long ++ times 9 one_pushed ++ times 8 (quietly down ∷ []) ++ refusal down 12 ∷ [])
  -- "a command one for each segment": one of 64 octets has two, with 14 packets on the down wire, and with 15
  pub command_at_14 : P
      (long ++ times 14 one_pushed
      ++ shows (command 0x0 0x3F (blank 64)) ((0x30 ∷ 0x3F ∷ 0x20 ∷ blank 32) ∷ (0x20 ∷ 0x3F ∷ 0x20 ∷ blank 32) ∷ []) [] [] ∷ [])
  pub command_at_15 : P (long ++ times 15 one_pushed ++ refusal (command 0x0 0x3F (blank 64)) 4 ∷ [])
  -- "down of a command's last packet needs two": with 14 packets on the up wire, and with 15
  pub answer_at_14 : P
      (long ++ times 14 one_returned
      ++ goes_down (command 0x0 0x3F []) (0x20 ∷ 0x3F ∷ 0x00 ∷ []) ∷ goes_up down (0x40 ∷ 0x3F ∷ 0x01 ∷ 0x05 ∷ []) ∷ [])
  pub answer_at_15 : P
      (long ++ times 15 one_returned ++ goes_down (command 0x0 0x3F []) (0x20 ∷ 0x3F ∷ 0x00 ∷ []) ∷ refusal down 4 ∷ [])
