-- Change 8, played: lists of calls in which a response discards a message from hand, so that the claim of Discards speaks of something, and
-- sends that are turned away. They are played as the rows of the table are, and P says what it is to play them.
-- Assumes nothing.
use Rattle.std.specs.Prelude.{ℕ, ◌≡◌, List, [], ◌∷◌, ◌++◌}
use Rattle.octets.specs.Octets.{Octets}
use Rattle.packets.specs.Types.{mt_response}
use Rattle.packets.specs.Segments.{last}
use Rattle.wires.specs.Meaning.{control, meaning}
use Rattle.ends.specs.Changes.{closes}
use Rattle.model.specs.Effects.{command, send, push, down, up}
use Rattle.model.specs.Observer.{Event, opening, observed, change_in}
use Rattle.model.specs.Table.{shows, goes_down, goes_up, quietly, refusal, initialised, created, on_two}
use Rattle.model.specs.Discards.{diary_of}

-- octets 01-09 on 2: the first of three segments is pushed, two are in hand
abbrev pub in_hand : List Event
in_hand =
    on_two
    ++ quietly (send 2 (0x01 ∷ 0x02 ∷ 0x03 ∷ 0x04 ∷ 0x05 ∷ 0x06 ∷ 0x07 ∷ 0x08 ∷ 0x09 ∷ []))
    ∷ goes_down (push 2) (0x12 ∷ 0x00 ∷ 0x04 ∷ 0x01 ∷ 0x02 ∷ 0x03 ∷ 0x04 ∷ [])
    ∷ []

-- a send that is turned away
abbrev pub turned_away : Event
turned_away = refusal (send 2 (0xAA ∷ [])) 15

-- CONN_CLOSE of 2, and its answer
abbrev pub close_answered : List Event
close_answered =
    in_hand
    ++ goes_down (command 0x0 0x05 (0x02 ∷ [])) (0x20 ∷ 0x05 ∷ 0x01 ∷ 0x02 ∷ [])
    ∷ turned_away
    ∷ quietly down
    ∷ goes_up down (0x40 ∷ 0x05 ∷ 0x01 ∷ 0x00 ∷ [])
    ∷ turned_away
    ∷ []

-- RESET, and its answer
abbrev pub reset_answered : List Event
reset_answered =
    in_hand
    ++ goes_down (command 0x0 0x00 (0x01 ∷ [])) (0x20 ∷ 0x00 ∷ 0x01 ∷ 0x01 ∷ [])
    ∷ turned_away
    ∷ quietly down
    ∷ shows down [] ((0x40 ∷ 0x00 ∷ 0x01 ∷ 0x00 ∷ []) ∷ (0x60 ∷ 0x00 ∷ 0x05 ∷ 0x02 ∷ 0x01 ∷ 0x20 ∷ 0x00 ∷ 0x00 ∷ []) ∷ []) []
    ∷ turned_away
    ∷ []

-- after the calls of es the response p with this OID, whatever lies behind it, is what `up` reads next
pub record Discarding (P : List Event → Type 0) (es : List Event) (p : Octets) (oid : ℕ) : Type 0 where
  pub played : P es
  pub behind : List Octets
  pub next_read : (observed es opening).up ≡ p ∷ behind
  pub response : meaning p ≡ control mt_response 0 oid (last (0x00 ∷ []))
  -- it closes 2 at the host
  pub shuts : change_in (observed es opening).aim 2 (meaning p) ≡ closes
  -- two segments are in hand there, of the message that the twelfth call took, and the fourteenth was the command: places count from 0
  pub left : ((diary_of es).hand 2).left ≡ 2
  pub sent_at : ((diary_of es).hand 2).sent_at ≡ 11
  pub command_at : (diary_of es).command_at ≡ 13

pub record Discarded (P : List Event → Type 0) : Type 0 where
  pub close : Discarding P close_answered (0x40 ∷ 0x05 ∷ 0x01 ∷ 0x00 ∷ []) 0x05
  pub reset : Discarding P reset_answered (0x40 ∷ 0x00 ∷ 0x01 ∷ 0x00 ∷ []) 0x00
  -- once it is read, the connection is closed; opened again, it has nothing in hand
  pub close_read : P (close_answered ++ quietly up ∷ refusal (push 2) 6 ∷ refusal (send 2 (0xAA ∷ [])) 6 ∷ [])
  pub reset_read : P (reset_answered ++ quietly up ∷ quietly up ∷ initialised ++ created ++ refusal (push 2) 8 ∷ quietly (send 2 (0xAA ∷ [])) ∷ [])
  -- a send is turned away with nothing in hand too, whatever connection it names; a Conn ID that is not there is refused before
  pub late : P
      (on_two
      ++ goes_down (command 0x0 0x05 (0x02 ∷ [])) (0x20 ∷ 0x05 ∷ 0x01 ∷ 0x02 ∷ [])
      ∷ turned_away
      ∷ refusal (send 3 (0xAA ∷ [])) 15
      ∷ refusal (send 1 (0xAA ∷ [])) 3
      ∷ goes_up down (0x40 ∷ 0x05 ∷ 0x01 ∷ 0x00 ∷ [])
      ∷ turned_away
      ∷ quietly up
      ∷ refusal (send 2 (0xAA ∷ [])) 6
      ∷ [])
  -- and behind a CONN_CLOSE that is refused, until that is read: then it is taken
  pub refused_close : P
      (on_two
      ++ goes_down (command 0x0 0x05 (0x03 ∷ [])) (0x20 ∷ 0x05 ∷ 0x01 ∷ 0x03 ∷ [])
      ∷ turned_away
      ∷ goes_up down (0x40 ∷ 0x05 ∷ 0x01 ∷ 0x01 ∷ [])
      ∷ turned_away
      ∷ quietly up
      ∷ quietly (send 2 (0xAA ∷ []))
      ∷ [])
  -- any other command lets a send through: CONN_CREATE, unanswered
  pub beside_create : P
      (on_two
      ++ goes_down (command 0x0 0x04 (0x01 ∷ 0x00 ∷ [])) (0x20 ∷ 0x04 ∷ 0x02 ∷ 0x01 ∷ 0x00 ∷ [])
      ∷ quietly (send 2 (0xAA ∷ []))
      ∷ goes_down (push 2) (0x02 ∷ 0x00 ∷ 0x01 ∷ 0xAA ∷ [])
      ∷ [])
