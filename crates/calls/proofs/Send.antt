-- send: the tests of its rules on numbers, what is known where none applies, and that it is the model's send.
-- Assumes nothing.
use Prim.Native.Nat.{ℕ, ◌≤◌}
use mathlib.Core.Path.{◌≡◌, refl, sym, ap, ◌∙◌}
use mathlib.Core.Bool.{false, not, ◌||◌}
use mathlib.Core.List.{List, [], ◌∷◌}
use native.Mathlib.Omega.{arith}
use lib.ListN.{length}
use lib.Dec.{leb, ltb}
use borrow.Author.Tests.{leb-false, ltb-false}
use Rattle.octets.specs.Octets.{Octets}
use Rattle.octets.specs.Octal.{Octal}
use Rattle.octets.proofs.Octets.{length_splice}
use Rattle.octets.proofs.Octal.{octal_splice}
use Rattle.calls.specs.Kinds.{Counts, Record}
use Rattle.state.specs.Conn.{place_of, counts_of, hand_with}
use Rattle.state.proofs.Chains.{or_left, or_right}
use Rattle.dh.specs.Host.{is_closing}
use Rattle.area.specs.Map.{message_size, places, hand_at}
use Rattle.record.specs.Reading.{decode_of}
use Rattle.record.specs.Fit.{Shape, Fit}
use Rattle.record.specs.Small.{Small}
use Rattle.record.specs.Plan.{with_hand}
use Rattle.record.proofs.Small.{small_decode}
use Rattle.record.proofs.Conns.{fit_set, small_set, shape_set}
use Rattle.views.specs.View.{down_of, up_of, view}
use Rattle.views.specs.Moves.{Sound}
use Rattle.views.proofs.Whole.{moves}
use Rattle.views.proofs.Tests.{hand_some}
use Rattle.model.specs.Effects.{send, taken}
use Rattle.model.specs.Refusals.{Rule, rule, first, no_conn}
use Rattle.model.specs.calls.Send.{send_rules}
use Rattle.model.specs.Bench.{act}
use Rattle.model.proofs.Order.{need}
use Rattle.calls.specs.Seen.{Puts}
use Rattle.calls.specs.Refines.{Good, Follows, Along, Refines}
use Rattle.calls.specs.calls.Push.{host_side}
use Rattle.calls.specs.calls.Send.{sent_record, sent_place, sent, send_call, Sendable}
use Rattle.calls.proofs.Called.{sound_area}
use Rattle.calls.proofs.Refine.{called_refines}
use Rattle.calls.proofs.Taken.{added_none, Took, took_refines}

-- ---- the rules on numbers

abbrev pub send_tests : Record → ℕ → Octets → List Rule
send_tests r c m =
    rule 3 (leb places (place_of c) || ltb message_size (length m))
    ∷ rule 15 (is_closing r.ends.host.pending)
    ∷ rule 6 (not (host_side r c).opened)
    ∷ rule 7 (host_side r c).hand.full
    ∷ []

pub send_tests_law : (a : Octets) (r : Record) (c : ℕ) (m : Octets) → send_rules c m (view a r) ≡ send_tests r c m
send_tests_law a r c m i =
    rule 3 (no_conn c || ltb message_size (length m))
    ∷ rule 15 (is_closing r.ends.host.pending)
    ∷ rule 6 (not (host_side r c).opened)
    ∷ rule 7 (hand_some (hand_at (place_of c)) (host_side r c).payload a (host_side r c).hand i)
    ∷ []

-- ---- what is known where none applies

pub send_facts : (r : Record) (c : ℕ) (m : Octets) → first (send_tests r c m) ≡ taken → Sendable c m
send_facts r c m t =
    let three = need 3 (send_tests r c m) t in
    record {
      place = leb-false places (place_of c) (or_left (leb places (place_of c)) (ltb message_size (length m)) three);
      short = ltb-false message_size (length m) (or_right (leb places (place_of c)) (ltb message_size (length m)) three);
    }

-- ---- the record after it is one that row 1 lets pass, of octets

module _ (r : Record) (c : ℕ) (m : Octets) (p : Sendable c m) (shape : Shape r) where
  abbrev new : Counts
  new = record { host = with_hand (hand_with (length m)) (host_side r c); controller = (counts_of r.ends.conns c).controller }

  send_fit : Fit r → Fit (sent_record r c m)
  send_fit f =
      let k = f.conns (place_of c) p.place in
      fit_set r c new p.place shape
      (record {
        payload = k.payload;
        hand = record { len = p.short; at = omega arith };
        host_run_law = k.host_run_law;
        store = k.store;
        controller_run_law = k.controller_run_law;
      })
      f

  send_small : Small r → Small (sent_record r c m)
  send_small s =
      let k = s.conns (place_of c) p.place in
      small_set r c new p.place shape (record { payload = k.payload; host_grant_law = k.host_grant_law; held = k.held; grant = k.grant; owed = k.owed }) s

  send_shape : Shape (sent_record r c m)
  send_shape = shape_set r c new p.place shape

-- ---- a send that is taken

module _ (a out : Octets) (r : Record) (c : ℕ) (m : Octets) (s : Sound a r) (small : Small r) (p : Sendable c m) (q : Puts) where
  took : Follows q.down r.down → Follows q.up r.up → Octal a → Octal m
      → Took (send c m) q (sent_place c m a) out (sent_record r c m) false false 0 0 0 (act (send c m) (view a r))
  took down up o v =
      record {
        long = omega (arith, s.room, length_splice a (hand_at (place_of c)) m);
        fit = send_fit r c m p s.shape s.fit;
        shape = send_shape r c m p s.shape;
        octal = octal_splice (hand_at (place_of c)) o v;
        small = send_small r c m p s.shape small;
        short = omega arith;
        drop = refl;
        rfu = refl;
        message = refl;
        next = (moves a r s).put_hand c m p.place p.short;
        to_down = added_none q.down r.down (down_of a r) down;
        to_up = added_none q.up r.up (up_of a r) up;
      }

-- a send on octets is the model's send
pub send_refines : (c : ℕ) (m : Octets) (q : Puts) (a out : Octets) → Octal m → Good a → message_size ≤ length out → Along q a → Refines (send c m) q a (send_call a out c m)
unfolding send_call
send_refines c m q a out v g room al =
    let r : Record = decode_of a in
    let s : Sound a r = sound_area a g.long g.judged in
    called_refines (send c m) (sent r c m a out) q a out g room al refl
    (λ t.
    let p : Sendable c m = send_facts r c m (ap first (sym (send_tests_law a r c m)) ∙ t) in
    took_refines (send c m) q (sent_place c m a) out (sent_record r c m) false false 0 0 0 (act (send c m) (view a r))
    (took a out r c m s (small_decode a g.octal) p q al.down al.up g.octal v) refl)
