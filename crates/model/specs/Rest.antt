-- What is said of Run to rest (document 02, item 1): a press ends by itself, how many moves all presses make together, and what is left when one makes none.
-- Assumes nothing.
use Rattle.std.specs.Prelude.{ℕ, ◌+◌, ◌*◌, ◌≤◌, ◌≡◌, true, false, List, [], length}
use Rattle.octets.specs.Octets.{Octets}
use Rattle.state.specs.Profile.{profile_in, profile_octets_ok}
use Rattle.model.specs.Effects.{Call}
use Rattle.model.specs.calls.Consume.{is_loop}
use Rattle.model.specs.State.{State, cold}
use Rattle.model.specs.Observer.{Account, opening, events, after, observed}
use Rattle.model.specs.Reachable.{Always}
use Rattle.model.specs.Press.{rests, move, in_hand, in_store, in_speech, press_by, press, presses}

-- a press without a limit, on every state, whether calls made it or not: its first move, and after a move that hands nothing out what a press would be from there
abbrev pub Unlimited : Type 0
Unlimited = (s : State) → press s ≡ press_by press (move s) s

-- "6 times (segments in hand at the host + down packets + stored packets) + up packets + 2 times reply segments left + 2"
abbrev pub bound : State → ℕ
bound s = 6 * (in_hand s + length s.down + in_store s) + length s.up + 2 * in_speech s + 2

-- no message is in hand, at the host for any connection, nor at the controller for the endpoint
pub record Silent (s : State) : Type 0 where
  pub host : (d : ℕ) → (s.conns d).host.hand ≡ []
  pub endpoint : (s.conns 0).controller.speech ≡ []

pub record Rests (s : State) : Type 0 where
  -- however many presses there are, they make no more moves
  pub within : (n : ℕ) → length (presses n s) ≤ bound s
  -- there is a press that makes none
  pub ends : press (after (presses (bound s) s) s) ≡ []
  -- and once one makes none, no message is in hand anywhere
  pub silent : (n : ℕ) → press (after (presses n s) s) ≡ [] → Silent (after (presses n s) s)

abbrev pub AlwaysRests : Type 0
AlwaysRests = Always Rests

-- of the number c, with o the account of the calls so far: where c is open at the controller, every message taken for it has been handed out
pub record Delivered (c : ℕ) (o : Account) : Type 0 where
  pub at_controller_law : (o.ledger c).controller.opened ≡ true → (o.ledger c).talk.out_controller ≡ (o.ledger c).talk.sent
  pub at_host_law : (o.ledger c).controller.opened ≡ true → is_loop c ≡ true → (o.ledger c).talk.out_host ≡ (o.ledger c).talk.sent
  pub at_host_static : (o.ledger c).controller.opened ≡ true → is_loop c ≡ false → (o.ledger c).talk.out_host ≡ (o.ledger c).talk.spoken

-- so it is whenever no move is left
abbrev pub AlwaysDelivered : Type 0
AlwaysDelivered =
    (profile : Octets) → profile_octets_ok profile ≡ true → (calls : List Call) → move (after calls (cold (profile_in profile))) ≡ rests
    → (c : ℕ) → Delivered c (observed (events calls (cold (profile_in profile))) opening)
