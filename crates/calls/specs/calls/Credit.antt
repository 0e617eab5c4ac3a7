-- credit on octets: one notice of all that is owed goes up, and nothing is owed after it.
-- Assumes nothing.
use Rattle.std.specs.Prelude.{ℕ, ◌<◌, false}
use Rattle.octets.specs.Octets.{Octets, splice}
use Rattle.messages.specs.Layout.{credits_message}
use Rattle.messages.specs.Packets.{notice_packet}
use Rattle.calls.specs.Kinds.{Record}
use Rattle.state.specs.Conn.{all_noticed}
use Rattle.area.specs.Map.{wire_slots, up_at}
use Rattle.area.specs.Ring.{free_at, put_into}
use Rattle.record.specs.Reading.{decode_of}
use Rattle.record.specs.Claims.{saved}
use Rattle.record.specs.Fit.{FitRing}
use Rattle.record.specs.Plan.{with_up, with_conns}
use Rattle.views.specs.View.{view_of}
use Rattle.model.specs.calls.Credit.{credit_rules}
use Rattle.calls.specs.Word.{word_of}
use Rattle.calls.specs.Outcome.{Outcome, outcome, called}

-- ---- the record after it

abbrev pub credited_record : Record → Record
credited_record r = with_up (put_into r.up) (with_conns (all_noticed r.ends.conns) r)

-- ---- the area after it

abbrev pub credited_packet : Record → Octets
credited_packet r = notice_packet (credits_message r.ends.conns)

abbrev pub credited_slot : Record → Octets → Octets
credited_slot r a = splice a (free_at up_at wire_slots r.up) (credited_packet r)

-- one packet is put on the up wire
abbrev pub credited_word : ℕ
credited_word = word_of false false 0 0 1

abbrev pub credited : Record → Octets → Octets → Outcome
credited r a out = outcome credited_word (saved (credited_slot r a) (credited_record r)) out

unfoldable pub credit_call : Octets → Octets → Outcome
credit_call a out = called (credit_rules (view_of a)) (credited (decode_of a) a out) a out

-- ---- what is known of a record where no rule applies

pub record Creditable (r : Record) : Type 0 where
  pub free : r.up.count < wire_slots
  pub ring : FitRing wire_slots r.up
