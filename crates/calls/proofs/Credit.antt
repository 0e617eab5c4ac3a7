-- credit: the tests of its rules on numbers, what is known where none applies, and that it is the model's credit.
-- Assumes nothing.
use Prim.Native.Nat.{ℕ, suc, ◌≤◌, ◌<◌}
use mathlib.Core.Path.{◌≡◌, refl, sym, ap, ◌∙◌, subst}
use mathlib.Core.Bool.{true, ◌&&◌}
use mathlib.Core.List.{List, [], ◌∷◌, ◌++◌, map}
use native.Mathlib.Omega.{arith}
use lib.ListN.{length, get_or, drop, length-map, drop_of_length-le, get_or-map}
use lib.Seq.{drop-cons}
use lib.Dec.{leb, eqb}
use borrow.Author.Tests.{leb-false}
use Rattle.octets.specs.Octets.{Octets}
use Rattle.octets.specs.Octal.{Octal, octal_nil, octal_cons}
use Rattle.octets.proofs.Octets.{length_splice}
use Rattle.octets.proofs.Octal.{octal_append, octal_splice}
use Rattle.packets.specs.Headers.{control_header}
use Rattle.packets.proofs.Packet.{octal_packet}
use Rattle.messages.specs.Layout.{entries_from, credits_ntf, owed_on, owed_of, credits_message}
use Rattle.messages.specs.Packets.{notice_packet}
use Rattle.messages.proofs.Lengths.{credits_short}
use Rattle.messages.proofs.Messages.{entries_length}
use Rattle.calls.specs.Kinds.{ControllerSide, Counts, Record}
use Rattle.state.specs.Conn.{place_of, conn_of, closed_counts, counts_of, flows, noticed_side, all_noticed}
use Rattle.state.proofs.Chains.{on}
use Rattle.ends.proofs.Changes.{counts_noticed, length_noticed}
use Rattle.area.specs.Map.{area_size, message_size, wire_slots, places, up_at}
use Rattle.area.specs.Ring.{free_at}
use Rattle.record.specs.Reading.{decode_of}
use Rattle.record.specs.Fit.{Each, Shape, Fit, FitCounts}
use Rattle.record.specs.Small.{SmallCounts, Small}
use Rattle.record.specs.Plan.{with_conns}
use Rattle.record.proofs.Small.{small_decode}
use Rattle.record.proofs.Conns.{conns_by}
use Rattle.views.specs.View.{up_of, view}
use Rattle.views.specs.Moves.{Sound}
use Rattle.views.proofs.Whole.{moves}
use Rattle.views.proofs.Changed.{controllers_all}
use Rattle.views.proofs.Tests.{up_full_one, owed_by_law}
use Rattle.model.specs.Connection.{with_controller, noticed}
use Rattle.model.specs.State as bench
use Rattle.model.specs.Effects.{credit, taken}
use Rattle.model.specs.Refusals.{Rule, rule, first}
use Rattle.model.specs.calls.Credit.{owed_by, all_zero, credit_rules}
use Rattle.model.specs.Bench.{act, judged}
use Rattle.model.proofs.Order.{need}
use Rattle.calls.specs.Seen.{Puts}
use Rattle.calls.specs.Refines.{Good, Follows, Along, RefinesTo, Refines}
use Rattle.calls.specs.calls.Credit.{credited_record, credited_packet, credited_slot, credited, credit_call, Creditable}
use Rattle.calls.proofs.Called.{sound_area}
use Rattle.calls.proofs.Refine.{called_refines}
use Rattle.calls.proofs.Taken.{added_none, added_one, took_refines}

-- ---- the rules on numbers

abbrev pub credit_tests : Record → List Rule
credit_tests r = rule 4 (leb wire_slots r.up.count) ∷ rule 8 (all_zero (owed_of r.ends.conns)) ∷ []

-- five: the array's length, by its type
pub credit_tests_law : (a : Octets) (r : Record) → length r.ends.conns ≡ places → credit_rules (view a r) ≡ credit_tests r
credit_tests_law a r five i = rule 4 (up_full_one a r i) ∷ rule 8 (all_zero (owed_by_law a r five i)) ∷ []

-- whether nothing is owed, from place i on: past the last, and from one place to the one before it
pub owed_none : (l : List Counts) → length l ≡ places → true ≡ all_zero (drop places (owed_of l))
unfolding all_zero
owed_none l five =
    sym (ap all_zero (drop_of_length-le (owed_of l) {i = places} (omega (arith, five, length-map l (λ (c : Counts). owed_on c.controller)))))

pub owed_turn : (l : List Counts) (i : ℕ) → i < length l
    → all_zero (drop i (owed_of l)) ≡ (eqb (owed_on (get_or l i closed_counts).controller) 0 && all_zero (drop (suc i) (owed_of l)))
unfolding all_zero
owed_turn l i h =
    ap all_zero (drop-cons (owed_of l) i 0 (omega (arith, h, length-map l (λ (c : Counts). owed_on c.controller))))
    ∙ (λ j. eqb (get_or-map (λ (c : Counts). owed_on c.controller) l i closed_counts j) 0 && all_zero (drop (suc i) (owed_of l)))

-- ---- what is known where none applies

pub credit_facts : (r : Record) → Fit r → first (credit_tests r) ≡ taken → Creditable r
credit_facts r f t = record { free = leb-false wire_slots r.up.count (need 4 (credit_tests r) t); ring = f.up }

-- ---- the record after it is one that row 1 lets pass, of octets

module _ (r : Record) (p : Creditable r) (shape : Shape r) where
  abbrev conns : List Counts
  conns = r.ends.conns

  -- each connection after it
  noticed_counts : (d : ℕ) → place_of d < places
      → counts_of (all_noticed conns) d ≡ record { host = (counts_of conns d).host; controller = noticed_side (counts_of conns d).controller }
  noticed_counts d l = counts_noticed conns d shape.conns l

  -- what is owed is 0 or as it was
  owed_least : (k : ControllerSide) → (noticed_side k).owed ≤ k.owed
  owed_least k = on (λ (n : ℕ). n ≤ k.owed) (k.opened && flows k.grant) (λ _. omega arith) (λ _. omega arith)

  credit_fit : Fit r → Fit (credited_record r)
  credit_fit f =
      record {
        down = f.down;
        up = record { head = f.up.head; count = omega (arith, p.free) };
        own = f.own;
        conns =
            conns_by FitCounts conns (all_noticed conns)
            (λ d l k.
            subst FitCounts (sym (noticed_counts d l))
            (record {
              payload = k.payload;
              hand = k.hand;
              host_run_law = k.host_run_law;
              store = k.store;
              controller_run_law = k.controller_run_law;
            }))
            f.conns;
      }

  credit_small : Small r → Small (credited_record r)
  credit_small s =
      record {
        own = s.own;
        conns =
            conns_by SmallCounts conns (all_noticed conns)
            (λ d l k.
            subst SmallCounts (sym (noticed_counts d l))
            (record {
              payload = k.payload;
              host_grant_law = k.host_grant_law;
              held = k.held;
              grant = k.grant;
              owed = omega (arith, owed_least (counts_of conns d).controller, k.owed);
            }))
            s.conns;
      }

  credit_shape : Shape (credited_record r)
  credit_shape = record { pairs = shape.pairs; conns = length_noticed conns ∙ shape.conns }

-- ---- the notice's octets are octets

octal_map : (f : Counts → ℕ) (l : List Counts) → ((p : ℕ) → p < length l → f (get_or l p closed_counts) ≤ 255) → Octal (map f l)
octal_map f [] h = octal_nil
octal_map f (c ∷ l) h = octal_cons (h 0 (omega arith)) (octal_map f l (λ p m. h (suc p) (omega arith)))

octal_owed : (l : List Counts) → length l ≡ places → Each SmallCounts l → Octal (owed_of l)
octal_owed l five s =
    octal_map (λ (c : Counts). owed_on c.controller) l
    (λ p m.
    let k : Counts = get_or l p closed_counts in
    on (λ (n : ℕ). n ≤ 255) (k.controller.opened && flows k.controller.grant) (λ _. (s p (omega (arith, five, m))).owed) (λ _. omega arith))

conn_small : (p : ℕ) → conn_of p ≤ 255
unfolding conn_of
conn_small p =
    on (λ (n : ℕ). n ≤ 255) (eqb p 0) (λ _. omega arith)
    (λ _. on (λ (n : ℕ). n ≤ 255) (eqb p 1) (λ _. omega arith)
    (λ _. on (λ (n : ℕ). n ≤ 255) (eqb p 2) (λ _. omega arith)
    (λ _. on (λ (n : ℕ). n ≤ 255) (eqb p 3) (λ _. omega arith) (λ _. omega arith))))

octal_entries : (p : ℕ) {owed : List ℕ} → Octal owed → Octal (entries_from p owed)
unfolding entries_from
octal_entries p octal_nil = octal_nil
octal_entries p (octal_cons {x = n} h t) =
    octal_append (on Octal (eqb n 0) (λ _. octal_nil) (λ _. octal_cons (conn_small p) (octal_cons h octal_nil))) (octal_entries (suc p) t)

-- ---- a credit that is taken

module _ (a out : Octets) (r : Record) (s : Sound a r) (small : Small r) (p : Creditable r) where
  moved_long : area_size ≤ length (credited_slot r a)
  moved_long = omega (arith, s.room, length_splice a (free_at up_at wire_slots r.up) (credited_packet r))

  short : length (credits_message r.ends.conns).payload ≤ 255
  short = credits_short r.ends.conns s.shape.conns

  fit : Fit (credited_record r)
  fit = credit_fit r p s.shape s.fit

  shape : Shape (credited_record r)
  shape = credit_shape r p s.shape

  -- first the connections' numbers, then the packet
  abbrev between : Record
  between = with_conns (all_noticed r.ends.conns) r

  between_sound : Sound a between
  between_sound =
      record {
        room = s.room;
        fit = record { down = s.fit.down; up = s.fit.up; own = fit.own; conns = fit.conns };
        shape = record { pairs = shape.pairs; conns = shape.conns };
      }

  next_between : view a between ≡ bench.with_conns (λ d. with_controller (noticed ((view a r).conns d).controller) ((view a r).conns d)) (view a r)
  next_between =
      controllers_all a r r.ends.endpoint (all_noticed r.ends.conns) s.shape.conns (length_noticed r.ends.conns) (λ d k. noticed_side k) (λ d k. noticed k)
      (noticed_counts r p s.shape) (λ d k l. refl) (λ d l. refl)

  message_is : credits_message r.ends.conns ≡ record { gid = 0; oid = 6; payload = credits_ntf (owed_by (view a r)) }
  message_is i = record { gid = 0; oid = 6; payload = credits_ntf (sym (owed_by_law a r s.shape.conns) i) }

  next_view : view (credited_slot r a) (credited_record r) ≡ (act credit (view a r)).next
  next_view =
      (moves a between between_sound).put_up (control_header 3 0 6) (credits_message r.ends.conns).payload short p.free
      ∙ (λ i. bench.with_up (up_of a r ++ (notice_packet (message_is i) ∷ [])) (next_between i))

  octets_after : Octal a → Octal (credited_slot r a)
  octets_after o =
      octal_splice (free_at up_at wire_slots r.up) o
      (octal_packet (control_header 3 0 6) (credits_message r.ends.conns).payload short
      (octal_cons (omega (arith, short, entries_length 0 (owed_of r.ends.conns))) (octal_entries 0 (octal_owed r.ends.conns s.shape.conns small.conns))))

  done : (q : Puts) → Follows q.down r.down → Follows q.up r.up → Octal a → RefinesTo credit q (credited r a out) (judged taken credit (view a r))
  done q down up o =
      took_refines credit q (credited_slot r a) out (credited_record r) _ _ 0 0 1 (act credit (view a r))
      (record {
        long = moved_long;
        fit = fit;
        shape = shape;
        octal = octets_after o;
        small = credit_small r p s.shape small;
        short = omega arith;
        drop = refl;
        rfu = refl;
        message = refl;
        next = next_view;
        to_down = added_none q.down r.down (view a r).down down;
        to_up = added_one q.up r.up (up_of a r) (notice_packet (record { gid = 0; oid = 6; payload = credits_ntf (owed_by (view a r)) })) up;
      })
      refl

-- a credit on octets is the model's credit
pub credit_refines : (q : Puts) (a out : Octets) → Good a → message_size ≤ length out → Along q a → Refines credit q a (credit_call a out)
unfolding credit_call
credit_refines q a out g room al =
    let r : Record = decode_of a in
    let s : Sound a r = sound_area a g.long g.judged in
    called_refines credit (credited r a out) q a out g room al refl
    (λ t. done a out r s (small_decode a g.octal) (credit_facts r s.fit (ap first (sym (credit_tests_law a r s.shape.conns)) ∙ t)) q al.down al.up g.octal)
