-- Item 10, played: lists of calls after which nothing is under way, so that `Exact` speaks of something, and the number of moves that are left. They are played as the
-- rows of the table are, and P says what it is to play them.
-- Assumes nothing.
use Rattle.std.specs.Prelude.{ℕ, ◌≡◌, List, [], ◌∷◌, ◌++◌}
use Rattle.octets.specs.Octets.{Octets}
use Rattle.model.specs.Effects.{command, send, push, down, consume, credit, air, up}
use Rattle.model.specs.Observer.{Event}
use Rattle.model.specs.Table.{shows, goes_down, goes_up, quietly, refusal, ready_with, opened, created, ready, activated}
use Rattle.model.specs.Exact.{exactly}

-- 2 is open with payload 4 and 2 credits, 0 with payload 4 and 1 credit
abbrev pub two_and_zero : List Event
two_and_zero = ready ++ created ++ activated 1

-- the same without flow control
abbrev pub unlimited : List Event
unlimited = ready_with (0x20 ∷ 0x04 ∷ 0xFF ∷ 0x04 ∷ 0xFF ∷ []) ++ opened 0x04 0xFF 0x02 ++ activated 0xFF

-- octets 01-09, three segments
abbrev pub nine : Octets
nine = 0x01 ∷ 0x02 ∷ 0x03 ∷ 0x04 ∷ 0x05 ∷ 0x06 ∷ 0x07 ∷ 0x08 ∷ 0x09 ∷ []

-- a message in hand on 2, one on 0, and one of the endpoint
abbrev pub in_hand : Octets → Octets → Octets → List Event
in_hand a b m = quietly (send 2 a) ∷ quietly (send 0 b) ∷ quietly (air (0x08 ∷ m)) ∷ []

-- what a marker asks, where 2 is open, and consume of 0 answers n: 8 where it is open too, 6 where it is not. Nothing is under way
abbrev pub asked : ℕ → List Event
asked n =
    refusal down 8
    ∷ refusal up 8
    ∷ refusal credit 8
    ∷ refusal (consume 0) n
    ∷ refusal (consume 2) 8
    ∷ refusal (consume 3) 6
    ∷ refusal (consume 4) 6
    ∷ refusal (consume 5) 6
    ∷ []

-- after the calls of es nothing is under way, and so many moves are left
pub record Foretells (P : List Event → Type 0) (n : ℕ) (es : List Event) (left : ℕ) : Type 0 where
  pub played : P (es ++ asked n)
  pub number : exactly (es ++ asked n) ≡ left

pub record Foretold (P : List Event → Type 0) : Type 0 where
  -- nothing is in hand
  pub none : Foretells P 8 two_and_zero 0
  -- three segments on 2, three on 0 with flow control, one of the endpoint: 12 and 15 and 2
  pub all : Foretells P 8 (two_and_zero ++ in_hand nine nine (0xAA ∷ [])) 29
  -- without flow control: 12 and 9 and 2
  pub all_unlimited : Foretells P 8 (unlimited ++ in_hand nine nine (0xAA ∷ [])) 23
  -- an empty message has one segment: 4 and 5 and 2
  pub empty : Foretells P 8 (two_and_zero ++ in_hand [] [] []) 11
  -- of three segments on 2 one has gone down and come back: 8 are left
  pub one_gone : Foretells P 8
      (two_and_zero
      ++ quietly (send 2 nine)
      ∷ goes_down (push 2) (0x12 ∷ 0x00 ∷ 0x04 ∷ 0x01 ∷ 0x02 ∷ 0x03 ∷ 0x04 ∷ [])
      ∷ quietly down
      ∷ goes_up (consume 2) (0x12 ∷ 0x01 ∷ 0x04 ∷ 0x01 ∷ 0x02 ∷ 0x03 ∷ 0x04 ∷ [])
      ∷ quietly up
      ∷ []) 8
  -- a deactivation to Idle discards what is in hand on 0 and the endpoint's message: 12 for 2 alone
  pub deactivated : Foretells P 6
      (two_and_zero ++ in_hand nine nine (0xAA ∷ [])
      ++ goes_down (command 0x1 0x06 (0x00 ∷ [])) (0x21 ∷ 0x06 ∷ 0x01 ∷ 0x00 ∷ [])
      ∷ shows down [] ((0x41 ∷ 0x06 ∷ 0x01 ∷ 0x00 ∷ []) ∷ (0x61 ∷ 0x06 ∷ 0x02 ∷ 0x00 ∷ 0x00 ∷ []) ∷ []) []
      ∷ quietly up
      ∷ quietly up
      ∷ []) 12
