-- Change 5 on octets: in every run of calls from a fresh bench, an OK get shows for each parameter asked, in the order asked, the value last accepted since it was
-- last restored, else its default. As demand 3, it speaks of what is seen of the exported functions and of no record.
-- Assumes nothing.
use Rattle.std.specs.Prelude.{◌≤◌, ◌≡◌, List, length}
use Rattle.octets.specs.Octets.{Octets}
use Rattle.octets.specs.Octal.{Octal}
use Rattle.area.specs.Map.{message_size}
use Rattle.model.specs.Effects.{down, taken}
use Rattle.model.specs.Config.{Diary, diary_of, ConfigTold}
use Rattle.calls.specs.Word.{answer_in}
use Rattle.calls.specs.Seen.{Puts, no_puts, seen_by}
use Rattle.calls.specs.calls.Fresh.{fresh_call}
use Rattle.calls.specs.calls.Down.{down_call}
use Rattle.calls.specs.Demand.{Key, AllOctal, area_after, puts_in, seen_in}

-- of the area a that a run has left, the packets p that it put, and the diary n of what was seen of it: what the next down puts on the up wire, with any buffer that
-- has room
abbrev pub OctetConfigClaim : Octets → Puts → Diary → Type 0
OctetConfigClaim a p n = (out : Octets) → message_size ≤ length out → ConfigTold (seen_by down p (down_call a out)).to_up n

-- for every run, from any area on which fresh answered 0, with any buffers
abbrev pub AlwaysConfigs : Type 0
AlwaysConfigs =
    (area out profile : Octets) → Octal area → answer_in (fresh_call area out profile).word ≡ taken → (keys : List Key) → AllOctal keys
    → OctetConfigClaim (area_after keys (fresh_call area out profile).area) (puts_in keys no_puts (fresh_call area out profile).area)
    (diary_of (seen_in keys no_puts (fresh_call area out profile).area))
