-- Change 8 on octets: in every run of calls from a fresh bench, a message that the answer to a RESET or a CONN_CLOSE discards from hand at
-- the host was taken before that command. As demand 3, it speaks of what is seen of the exported functions and of no record.
-- Assumes nothing.
use Rattle.std.specs.Prelude.{◌≤◌, ◌≡◌, List, length}
use Rattle.octets.specs.Octets.{Octets}
use Rattle.octets.specs.Octal.{Octal}
use Rattle.area.specs.Map.{message_size}
use Rattle.model.specs.Effects.{taken}
use Rattle.model.specs.Observer.{Account, opening, observed}
use Rattle.model.specs.Discards.{Diary, diary_of, TakenBefore, HandsTold}
use Rattle.calls.specs.Word.{answer_in}
use Rattle.calls.specs.Seen.{no_puts}
use Rattle.calls.specs.calls.Fresh.{fresh_call}
use Rattle.calls.specs.calls.Push.{push_call}
use Rattle.calls.specs.Demand.{Key, AllOctal, area_after, seen_in}

-- of the area a that a run has left, the account o and the diary n of what was seen of it
pub record OctetDiscardClaim (a : Octets) (o : Account) (n : Diary) : Type 0 where
  -- what the response that `up` reads next discards was taken before its command
  pub discards : TakenBefore o n
  -- and the diary is true of the bench, by what push answers with any buffer that has room
  pub told : (out : Octets) → message_size ≤ length out → HandsTold (λ c. answer_in (push_call a out c).word) o n

-- for every run, from any area on which fresh answered 0, with any buffers
abbrev pub AlwaysDiscards : Type 0
AlwaysDiscards =
    (area out profile : Octets) → Octal area → answer_in (fresh_call area out profile).word ≡ taken → (keys : List Key) → AllOctal keys
    → OctetDiscardClaim (area_after keys (fresh_call area out profile).area)
    (observed (seen_in keys no_puts (fresh_call area out profile).area) opening)
    (diary_of (seen_in keys no_puts (fresh_call area out profile).area))
