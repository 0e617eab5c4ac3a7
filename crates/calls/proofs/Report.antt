-- report: its rules on numbers, its octets, and that it is the model's report.
-- Assumes nothing.
use Prim.Native.Nat.{ℕ, ◌≤◌, ◌<◌}
use mathlib.Core.Path.{◌≡◌, refl}
use mathlib.Core.Bool.{false, not}
use mathlib.Core.List.{List, [], ◌∷◌}
use native.Mathlib.Omega.{arith}
use lib.ListN.{length}
use lib.Dec.{leb}
use borrow.Author.Tests.{leb-false}
use Rattle.octets.specs.Octets.{Octets, cut, splice}
use Rattle.octets.proofs.Octets.{cut_same}
use Rattle.calls.specs.Kinds.{Record}
use Rattle.state.specs.Conn.{place_of, counts_of}
use Rattle.area.specs.Map.{message_size, wire_slots, places, down_at, up_at}
use Rattle.area.specs.Ring.{packets_from, tab}
use Rattle.area.proofs.Rings.{length_packets}
use Rattle.record.specs.Reading.{decode_of}
use Rattle.record.specs.Layout.{bit}
use Rattle.record.specs.Fit.{Fit}
use Rattle.views.specs.View.{down_of, up_of, view}
use Rattle.wires.specs.Tally.{data_count}
use Rattle.wires.specs.Counted.{counted_up}
use Rattle.wires.proofs.Few.{counted_up_few, data_count_few}
use Rattle.model.specs.Effects.{report, taken}
use Rattle.model.specs.Refusals.{Rule, rule, first}
use Rattle.model.specs.calls.Report.{report_of, report_rules}
use Rattle.model.specs.Bench.{judged}
use Rattle.model.proofs.Order.{need}
use Rattle.calls.specs.Word.{word_of, answer_in, dropped_in, handed_in, length_in, down_in, up_in, rfu_in}
use Rattle.calls.specs.Outcome.{lowest}
use Rattle.calls.specs.Seen.{Puts}
use Rattle.calls.specs.Refines.{Good, Along, RefinesTo, Refines}
use Rattle.calls.specs.calls.Report.{reported, report_call, Reportable}
use Rattle.calls.proofs.Rules.{first_taken}
use Rattle.calls.proofs.Refine.{called_refines}

-- ---- the rules on numbers

abbrev pub report_tests : Record → ℕ → List Rule
report_tests r c = rule 3 (leb places (place_of c)) ∷ rule 6 (not (counts_of r.ends.conns c).controller.opened) ∷ []

pub report_tests_law : (a : Octets) (r : Record) (c : ℕ) → report_rules c (view a r) ≡ report_tests r c
report_tests_law a r c = refl

-- ---- what is known where none applies

pub report_facts : (r : Record) (c : ℕ) → Fit r → first (report_tests r c) ≡ taken → Reportable r c
report_facts r c f t =
    let place : place_of c < places = leb-false places (place_of c) (need 3 (report_tests r c) t) in
    record { place = place; down = f.down; up = f.up; counts = f.conns (place_of c) place }

pub report_able : (a : Octets) (r : Record) (c : ℕ) → Fit r → 0 ≡ lowest (report_rules c (view a r)) → Reportable r c
report_able a r c f e = report_facts r c f (first_taken (report_tests r c) refl e)

-- what a wire of sixteen has fits an octet
module _ (a : Octets) (r : Record) (c : ℕ) (p : Reportable r c) where
  pub down_octet : data_count c (down_of a r) ≤ 255
  down_octet = omega (arith, data_count_few c (down_of a r), length_packets down_at wire_slots a r.down, p.down.count)

  pub up_octet : counted_up c (up_of a r) ≤ 255
  up_octet = omega (arith, counted_up_few c (up_of a r), length_packets up_at wire_slots a r.up, p.up.count)

-- ---- refinement

report_done : (c : ℕ) (q : Puts) (a out : Octets) → Good a → Along q a → cut 0 5 (splice out 0 (report_of c (view a (decode_of a)))) ≡ report_of c (view a (decode_of a))
    → RefinesTo (report c) q (reported (decode_of a) c a out) (judged taken (report c) (view a (decode_of a)))
unfolding word_of bit answer_in dropped_in handed_in length_in down_in up_in rfu_in packets_from tab
report_done c q a out g al e =
    record {
      good = λ _ _. g;
      event = λ i. record { call = report c; answer = taken; dropped = false; rfu = 0; to_down = []; to_up = []; message = e i ∷ [] };
      next = refl;
      along = record { down = omega (arith, al.down); up = omega (arith, al.up) };
      there = record { down = omega arith; up = omega arith };
    }

pub report_refines : (c : ℕ) (q : Puts) (a out : Octets) → Good a → message_size ≤ length out → Along q a → Refines (report c) q a (report_call a out c)
unfolding report_call
report_refines c q a out g room al =
    called_refines (report c) (reported (decode_of a) c a out) q a out g room al refl
    (λ t. report_done c q a out g al (cut_same out 0 (report_of c (view a (decode_of a))) (omega arith)))
