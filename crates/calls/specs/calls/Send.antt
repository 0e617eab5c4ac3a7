-- send on octets: a message is put in hand.
-- Assumes nothing.
use Rattle.std.specs.Prelude.{ℕ, ◌≤◌, ◌<◌, false, length}
use Rattle.octets.specs.Octets.{Octets, splice}
use Rattle.calls.specs.Kinds.{Record}
use Rattle.state.specs.Conn as conn
use Rattle.state.specs.Conn.{place_of}
use Rattle.dh.specs.Sending.{sent_side}
use Rattle.area.specs.Map.{message_size, places, hand_at}
use Rattle.record.specs.Reading.{decode_of}
use Rattle.record.specs.Claims.{saved}
use Rattle.record.specs.Plan.{with_conns}
use Rattle.views.specs.View.{view_of}
use Rattle.model.specs.calls.Send.{send_rules}
use Rattle.calls.specs.Word.{word_of}
use Rattle.calls.specs.Outcome.{Outcome, outcome, called}
use Rattle.calls.specs.calls.Push.{host_side}

-- ---- the record after it

abbrev pub sent_record : Record → ℕ → Octets → Record
sent_record r c m = with_conns (conn.with_host r.ends.conns c (sent_side (length m) (host_side r c))) r

-- ---- the area after it

-- the message lies in the connection's place; past it that place keeps its own
abbrev pub sent_place : ℕ → Octets → Octets → Octets
sent_place c m a = splice a (hand_at (place_of c)) m

-- no packet is put, no message handed out
abbrev pub sent_word : ℕ
sent_word = word_of false false 0 0 0

abbrev pub sent : Record → ℕ → Octets → Octets → Octets → Outcome
sent r c m a out = outcome sent_word (saved (sent_place c m a) (sent_record r c m)) out

unfoldable pub send_call : Octets → Octets → ℕ → Octets → Outcome
send_call a out c m = called (send_rules c m (view_of a)) (sent (decode_of a) c m a out) a out

-- ---- what is known where no rule applies, whatever the record

pub record Sendable (c : ℕ) (m : Octets) : Type 0 where
  pub place : place_of c < places
  pub short : length m ≤ message_size
