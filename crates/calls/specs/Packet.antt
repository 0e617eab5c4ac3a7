-- A packet that was put on a wire, read for front ends that show packets. It is none of the twelve calls, and no octet of the area changes.
-- Assumes nothing.
use Rattle.std.specs.Prelude.{ℕ, zero, suc, ◌+◌, ◌-◌, ◌%◌, ◌<◌, true, false, List, [], ◌∷◌, ◌++◌, length, eqb, ltb, leb}
use Rattle.octets.specs.Octets.{Octets, pick, cut, splice}
use Rattle.calls.specs.Kinds.{Ring, Record}
use Rattle.area.specs.Map.{wire_slots, down_at, up_at}
use Rattle.area.specs.Ring.{slot_packet}
use Rattle.record.specs.Reading.{decode_of}
use Rattle.record.specs.Fit.{FitRing}
use Rattle.model.specs.Refusals.{Rule, rule}
use Rattle.calls.specs.Word.{word_of, handed_in, length_in}
use Rattle.calls.specs.Outcome.{Outcome, outcome, called}

-- ---- a wire by its number: 0 is the down wire, 1 the up wire

unfoldable pub wire_ring : Record → ℕ → Ring
wire_ring r wire = pick (eqb wire 0) r.down r.up

unfoldable pub wire_at : ℕ → ℕ
wire_at wire = pick (eqb wire 0) down_at up_at

-- ---- a packet counted from the wire's end: back others were put after it

abbrev pub slot_back : Ring → ℕ → ℕ
slot_back k back = (k.head + (k.count - 1 - back)) % wire_slots

abbrev pub packet_back : Record → ℕ → ℕ → Octets → Octets
packet_back r wire back a = slot_packet (wire_at wire) a (slot_back (wire_ring r wire) back)

-- ---- the reader

abbrev pub packet_rules : Record → ℕ → ℕ → List Rule
packet_rules r wire back = rule 3 (ltb 1 wire) ∷ rule 8 (leb (wire_ring r wire).count back) ∷ []

-- the packet is handed out as a message is
abbrev pub shown_packet : Octets → Octets → Octets → Outcome
shown_packet p a out = outcome (word_of false true (length p) 0 0) a (splice out 0 p)

unfoldable pub packet_call : Octets → Octets → ℕ → ℕ → Outcome
packet_call a out wire back =
    called (packet_rules (decode_of a) wire back) (shown_packet (packet_back (decode_of a) wire back a) a out) a out

-- ---- what is known of a record where no rule applies

pub record Showable (r : Record) (wire back : ℕ) : Type 0 where
  pub ring : FitRing wire_slots (wire_ring r wire)
  pub some : back < (wire_ring r wire).count

-- ---- the last n packets of a wire, as a front end reads them: for back n - 1, .., 0, each into a buffer of its own

unfoldable pub handed_by : Outcome → List Octets
handed_by o = pick (handed_in o.word) (cut 0 (length_in o.word) o.out ∷ []) []

unfoldable pub last_packets : Octets → (ℕ → Octets) → ℕ → ℕ → List Octets
last_packets a outs wire zero = []
last_packets a outs wire (suc n) = handed_by (packet_call a (outs n) wire n) ++ last_packets a outs wire n
