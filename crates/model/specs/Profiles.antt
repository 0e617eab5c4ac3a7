-- Change 4, played: a tight and a loose connection in the same paper. The lists are played as the rows of the table are, and P says what it is
-- to play them.
-- Assumes nothing.
use Rattle.std.specs.Prelude.{ℕ, List, [], ◌∷◌, ◌++◌}
use Rattle.octets.specs.Octets.{Octets}
use Rattle.model.specs.Effects.{fresh, command, send, push, down, up, report}
use Rattle.model.specs.Observer.{Event}
use Rattle.model.specs.Table.{shows, goes_down, goes_up, quietly, refusal, ready_with, opened, activated}

-- control payload 32; on 2 payload 1 and one credit, on 3 payload 255 and eight, on 4 payload 4 and no flow control, on 5 payload 16 and three;
-- on 0 payload 4 and two
abbrev pub for_each : Octets
for_each = 0x20 ∷ 0x01 ∷ 0x01 ∷ 0xFF ∷ 0x08 ∷ 0x04 ∷ 0xFF ∷ 0x10 ∷ 0x03 ∷ 0x04 ∷ 0x02 ∷ []

-- CONN_CLOSE of a Conn ID
abbrev pub shut : ℕ → List Event
shut id =
    goes_down (command 0x0 0x05 (id ∷ [])) (0x20 ∷ 0x05 ∷ 0x01 ∷ id ∷ [])
    ∷ goes_up down (0x40 ∷ 0x05 ∷ 0x01 ∷ 0x00 ∷ [])
    ∷ quietly up
    ∷ []

-- "a tight and a loose connection": 2 and 3 are open
abbrev pub tight_and_loose : List Event
tight_and_loose = ready_with for_each ++ opened 0x01 0x01 2 ++ opened 0xFF 0x08 3

pub record Profiles (P : List Event → Type 0) : Type 0 where
  -- "The create response gives the pair of the ID that it assigns."
  pub each : P (tight_and_loose ++ opened 0x04 0xFF 4 ++ opened 0x10 0x03 5)
  -- of the ID, not of its turn: after 2 is closed the next is 3
  pub after_close : P (ready_with for_each ++ opened 0x01 0x01 2 ++ shut 2 ++ opened 0xFF 0x08 3)
  -- "the static pair last"
  pub static : P (ready_with for_each ++ activated 2)
  -- three octets are three packets on 2, of which one may go, and one packet on 3, where seven more may
  pub side_by_side : P
      (tight_and_loose
      ++ quietly (send 2 (0x01 ∷ 0x02 ∷ 0x03 ∷ []))
      ∷ quietly (send 3 (0x01 ∷ 0x02 ∷ 0x03 ∷ []))
      ∷ goes_down (push 2) (0x12 ∷ 0x00 ∷ 0x01 ∷ 0x01 ∷ [])
      ∷ refusal (push 2) 9
      ∷ goes_down (push 3) (0x03 ∷ 0x00 ∷ 0x03 ∷ 0x01 ∷ 0x02 ∷ 0x03 ∷ [])
      ∷ refusal (push 3) 8
      ∷ shows (report 2) [] [] ((0x00 ∷ 0x01 ∷ 0x00 ∷ 0x00 ∷ 0x00 ∷ []) ∷ [])
      ∷ shows (report 3) [] [] ((0x07 ∷ 0x01 ∷ 0x00 ∷ 0x00 ∷ 0x00 ∷ []) ∷ [])
      ∷ [])
  -- every pair is judged: here 4 would have nine credits, here 5 payload 0
  pub nine_credits : P (refusal (fresh (0x20 ∷ 0x01 ∷ 0x01 ∷ 0xFF ∷ 0x08 ∷ 0x04 ∷ 0x09 ∷ 0x10 ∷ 0x03 ∷ 0x04 ∷ 0x02 ∷ [])) 3 ∷ [])
  pub no_payload : P (refusal (fresh (0x20 ∷ 0x01 ∷ 0x01 ∷ 0xFF ∷ 0x08 ∷ 0x04 ∷ 0xFF ∷ 0x00 ∷ 0x03 ∷ 0x04 ∷ 0x02 ∷ [])) 3 ∷ [])
  -- nine octets are neither form
  pub nine_octets : P (refusal (fresh (0x20 ∷ 0x01 ∷ 0x01 ∷ 0xFF ∷ 0x08 ∷ 0x04 ∷ 0xFF ∷ 0x04 ∷ 0x02 ∷ [])) 3 ∷ [])
