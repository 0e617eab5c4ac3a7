-- What is said of Run to rest on octets (document 02, item 1): a press is the model's press, how many moves presses make, and what holds when one makes none.
-- Assumes nothing.
use Rattle.std.specs.Prelude.{ℕ, zero, suc, ◌+◌, ◌≤◌, ◌≡◌, true, List, [], ◌∷◌, length}
use Rattle.octets.specs.Octets.{Octets}
use Rattle.octets.specs.Octal.{Octal}
use Rattle.area.specs.Map.{message_size}
use Rattle.views.specs.View.{view_of}
use Rattle.model.specs.State.{State}
use Rattle.model.specs.Effects.{Call, taken, refused}
use Rattle.model.specs.Bench.{step}
use Rattle.model.specs.Grants.{WithinGrants}
use Rattle.model.specs.Observer.{Account}
use Rattle.model.specs.Press as model
use Rattle.model.specs.Press.{press}
use Rattle.model.specs.Rest.{bound, Delivered}
use Rattle.calls.specs.Word.{answer_in, dropped_in, rfu_in, moves_in}
use Rattle.calls.specs.Packet.{handed_by}
use Rattle.calls.specs.Refines.{Good}
use Rattle.calls.specs.calls.Send.{send_call}
use Rattle.calls.specs.calls.Push.{push_call}
use Rattle.calls.specs.calls.Air.{air_call}
use Rattle.calls.specs.calls.Reply.{reply_call}
use Rattle.calls.specs.Run.{moves_on, run_call}
use Rattle.calls.specs.Strokes.{EveryStroke}

-- ---- a press is the model's press

-- what it tells of the bench that an area stands for
pub record Tells (a out : Octets) : Type 0 where
  pub answers : answer_in (run_call a out).word ≡ taken
  pub plays : moves_on a out ≡ press (view_of a)
  pub counts : moves_in (run_call a out).word ≡ (model.pressed (view_of a)).moves
  pub drops : dropped_in (run_call a out).word ≡ (model.pressed (view_of a)).dropped
  pub clear : rfu_in (run_call a out).word ≡ 0
  pub hands : handed_by (run_call a out) ≡ (model.pressed (view_of a)).message
  pub next : view_of (run_call a out).area ≡ (model.pressed (view_of a)).next
  -- it can be pressed again
  pub good : Good (run_call a out).area
  pub room : length (run_call a out).out ≡ length out

-- no call of these brings credits past a grant
abbrev pub MovesWithin : List Call → State → Type 0
MovesWithin [] s = Unit {0}
MovesWithin (c ∷ cs) s = WithinGrants (step c s).effect.next × MovesWithin cs (step c s).effect.next

-- on every good area of which its moves bring no credits past a grant, with room in the buffer for a message
abbrev pub AllTell : Type 0
AllTell = (a out : Octets) → Good a → message_size ≤ length out → MovesWithin (press (view_of a)) (view_of a) → Tells a out

-- so on every bench that keys from a fresh one have made
abbrev pub AlwaysTell : Type 0
AlwaysTell = EveryStroke (λ a p o. (out : Octets) → message_size ≤ length out → Tells a out)

-- ---- presses one after the other, each with what the one before it left

unfoldable pub moves_over : ℕ → Octets → Octets → ℕ
moves_over zero a out = 0
moves_over (suc n) a out = moves_in (run_call a out).word + moves_over n (run_call a out).area (run_call a out).out

unfoldable pub area_over : ℕ → Octets → Octets → Octets
area_over zero a out = a
area_over (suc n) a out = area_over n (run_call a out).area (run_call a out).out

unfoldable pub out_over : ℕ → Octets → Octets → Octets
out_over zero a out = out
out_over (suc n) a out = out_over n (run_call a out).area (run_call a out).out

-- of a bench that keys made: no number of presses makes more moves than this, and there is one that makes none
pub record OctetRests (a out : Octets) : Type 0 where
  pub within : (n : ℕ) → moves_over n a out ≤ bound (view_of a)
  pub ends : moves_in (run_call (area_over (bound (view_of a)) a out) (out_over (bound (view_of a)) a out)).word ≡ 0

abbrev pub AlwaysOctetRests : Type 0
AlwaysOctetRests = EveryStroke (λ a p o. (out : Octets) → message_size ≤ length out → OctetRests a out)

-- ---- no message is in hand, by what calls answer with any buffer that has room

pub record OctetSilent (a : Octets) (o : Account) : Type 0 where
  -- no send is turned away for a message in hand, and no message of the endpoint
  pub send : (out : Octets) → message_size ≤ length out → (c : ℕ) (m : Octets) → Octal m → answer_in (send_call a out c m).word ≡ refused 7 → ⊥
  pub air : (out : Octets) → message_size ≤ length out → (m : Octets) → Octal m → answer_in (air_call a out m).word ≡ refused 7 → ⊥
  -- there is nothing to push on any connection open at the host, by the account, and nothing to reply
  pub push : (out : Octets) → message_size ≤ length out → (c : ℕ) → (o.ledger c).host.opened ≡ true → answer_in (push_call a out c).word ≡ refused 8
  pub reply : (out : Octets) → message_size ≤ length out → answer_in (reply_call a out).word ≡ refused 8
  -- and every message that was taken has been handed out
  pub delivered : (c : ℕ) → Delivered c o

-- so it is, whatever keys were pressed, once a press makes no move
abbrev pub AlwaysSilent : Type 0
AlwaysSilent = EveryStroke (λ a p o. (out : Octets) → message_size ≤ length out → moves_in (run_call a out).word ≡ 0 → OctetSilent a o)
