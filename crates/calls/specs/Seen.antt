-- What is seen of a call from outside: the word that it answered, the slots of the wires and the message buffer, never the record.
-- Assumes nothing.
use Rattle.std.specs.Prelude.{ℕ, ◌+◌, Bool, true, false, ◌&&◌, [], ◌∷◌}
use Rattle.octets.specs.Octets.{pick, cut}
use Rattle.area.specs.Map.{down_at, up_at, wire_slots}
use Rattle.area.specs.Ring.{packets_from}
use Rattle.model.specs.Effects.{Call, fresh, power, command, send, push, down, consume, credit, air, reply, up, report, Result, is_taken}
use Rattle.model.specs.Observer.{Event}
use Rattle.calls.specs.Word.{answer_in, dropped_in, handed_in, length_in, down_in, up_in, rfu_in}
use Rattle.calls.specs.Outcome.{Outcome}

-- how many packets were put on each wire since the last fresh or power: the next one goes into the slot of that number, modulo 16
pub record Puts : Type 0 where
  pub down : ℕ
  pub up : ℕ

abbrev pub no_puts : Puts
no_puts = record { down = 0; up = 0 }

-- the calls that empty both wires
abbrev pub starts : Call → Bool
starts (fresh m) = true
starts power = true
starts (command gid oid m) = false
starts (send c m) = false
starts (push c) = false
starts down = false
starts (consume c) = false
starts credit = false
starts (air m) = false
starts reply = false
starts up = false
starts (report c) = false

abbrev pub restarts : Call → Result → Bool
restarts c r = is_taken r && starts c

abbrev pub puts_after : Call → Puts → ℕ → Puts
puts_after c p w = pick (restarts c (answer_in w)) no_puts (record { down = p.down + down_in w; up = p.up + up_in w })

abbrev pub seen_by : Call → Puts → Outcome → Event
seen_by c p o =
    record {
      call = c;
      answer = answer_in o.word;
      dropped = dropped_in o.word;
      rfu = rfu_in o.word;
      to_down = packets_from down_at wire_slots o.area p.down (down_in o.word);
      to_up = packets_from up_at wire_slots o.area p.up (up_in o.word);
      message = pick (handed_in o.word) (cut 0 (length_in o.word) o.out ∷ []) [];
    }
