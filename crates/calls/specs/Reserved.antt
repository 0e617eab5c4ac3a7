-- Which reserved bits the calls show. Down and up show those of the packet that they take; no other call shows any.
-- Assumes nothing.
use Rattle.std.specs.Prelude.{ℕ, ◌≡◌, ◌&&◌, not}
use Rattle.octets.specs.Octets.{Octets, pick}
use Rattle.octets.specs.Octal.{Octal}
use Rattle.packets.specs.Reserved.{rfu_by}
use Rattle.calls.specs.Kinds.way as way
use Rattle.record.specs.Reading.{decode_of}
use Rattle.model.specs.Effects.{Call, fresh, power, command, send, push, down, consume, credit, air, reply, up, report, is_taken}
use Rattle.calls.specs.Word.{answer_in, dropped_in, rfu_in}
use Rattle.calls.specs.calls.Down.{down_read}
use Rattle.calls.specs.calls.Up.{up_read}
use Rattle.calls.specs.Demand.{Key, pressed, slice, EveryRun}

-- those of the packet that the call would take
abbrev pub tellable : Call → Octets → ℕ
tellable (fresh m) a = 0
tellable power a = 0
tellable (command gid oid m) a = 0
tellable (send c m) a = 0
tellable (push c) a = 0
tellable down a = rfu_by way.Down (down_read (decode_of a) a)
tellable (consume c) a = 0
tellable credit a = 0
tellable (air m) a = 0
tellable reply a = 0
tellable up a = rfu_by way.Up (up_read (decode_of a) a)
tellable (report c) a = 0

-- on any area of octets, whatever its length and its record: they are shown exactly where the call is taken and the drop flag is clear
abbrev pub RfuExact : Type 0
RfuExact =
    (k : Key) (a : Octets) → Octal (slice k.call) → Octal a
    → rfu_in (pressed k a).word ≡ pick (is_taken (answer_in (pressed k a).word) && not (dropped_in (pressed k a).word)) (tellable k.call a) 0

-- in every run from a fresh bench there are none: neither end leaves a reserved bit at 1
abbrev pub AlwaysClear : Type 0
AlwaysClear = EveryRun (λ a p o. (k : Key) → Octal (slice k.call) → rfu_in (pressed k a).word ≡ 0)
