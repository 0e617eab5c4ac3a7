-- report on octets: five numbers of a connection, as a message of five octets. No octet of the area changes.
-- Assumes nothing.
use Rattle.std.specs.Prelude.{ℕ, ◌<◌, true, false}
use Rattle.octets.specs.Octets.{Octets, splice}
use Rattle.calls.specs.Kinds.{Record}
use Rattle.state.specs.Conn.{place_of, counts_of}
use Rattle.area.specs.Map.{wire_slots, places}
use Rattle.record.specs.Reading.{decode_of}
use Rattle.record.specs.Fit.{FitRing, FitCounts}
use Rattle.views.specs.View.{view, view_of}
use Rattle.model.specs.calls.Report.{report_of, report_rules}
use Rattle.calls.specs.Word.{word_of}
use Rattle.calls.specs.Outcome.{Outcome, outcome, called}

abbrev pub reported_word : ℕ
reported_word = word_of false true 5 0 0

-- the model's five numbers on what the area stands for: each fits an octet, whatever the record
abbrev pub reported : Record → ℕ → Octets → Octets → Outcome
reported r c a out = outcome reported_word a (splice out 0 (report_of c (view a r)))

unfoldable pub report_call : Octets → Octets → ℕ → Outcome
report_call a out c = called (report_rules c (view_of a)) (reported (decode_of a) c a out) a out

-- ---- what is known of a record where no rule applies

pub record Reportable (r : Record) (c : ℕ) : Type 0 where
  pub place : place_of c < places
  pub down : FitRing wire_slots r.down
  pub up : FitRing wire_slots r.up
  pub counts : FitCounts (counts_of r.ends.conns c)
