-- A printed line fits the text that is lent for it, whatever the line, the area and the buffer: a wire has at most sixteen packets, and no call
-- hands out more than 1,024 octets.
-- Assumes nothing.
use Prim.Native.Nat.{ℕ, zero, suc, ◌+◌, ◌*◌, ◌/◌, ◌%◌, ◌≤◌, ◌<◌, min}
use mathlib.Core.Path.{◌≡◌, refl, ap, ◌∙◌}
use mathlib.Core.Bool.{Bool, true, false}
use mathlib.Core.List.{List, [], ◌∷◌, ◌++◌}
use native.Mathlib.Omega.{arith}
use native.Mathlib.Decide.{dec_lt}
use borrow.Author.Tests.{ltb-false, leb-false, ne_eqb, not-false}
use lib.ListN.{length, get_or, drop, length-append, length-take}
use lib.Dec.{ltb}
use Rattle.octets.specs.Octets.{Octets, pick, cut}
use Rattle.packets.specs.Packet.{read_of}
use Rattle.state.proofs.Chains.{on}
use Rattle.area.specs.Map.{slot_size, wire_slots, area_size, message_size}
use Rattle.record.specs.Layout.{bit}
use Rattle.record.specs.Judge.{judge_of}
use Rattle.record.specs.Reading.{decode_of}
use Rattle.model.specs.Effects.{Call, fresh, power, command, send, push, down, consume, credit, air, reply, up, report}
use Rattle.model.proofs.Needs.{need}
use Rattle.calls.specs.Kinds.{Reading}
use Rattle.std.specs.Prelude.{Some, None}
use Rattle.calls.specs.Word.{handed_bit, word_of, word_telling, number_of, answer_in, dropped_in, handed_in, length_in, down_in, up_in, rfu_in, moves_in}
use Rattle.calls.specs.Outcome.{Outcome, outcome, entry_rules}
use Rattle.calls.specs.Packet.{wire_ring, packet_back, packet_rules, shown_packet, packet_call, handed_by, last_packets}
use Rattle.calls.specs.Read.{Found, found_in, found_of, found_word}
use Rattle.calls.proofs.Called.{sound_area}
use Rattle.calls.proofs.Words.{word_length, told_length}
use Rattle.calls.specs.Demand.{perform}
use Rattle.calls.specs.Kept.{Within}
use Rattle.calls.proofs.Kept.{below, called_by, nothing_past}
use Rattle.calls.proofs.RunKept.{run_kept}
use Rattle.calls.proofs.Packet.{wire_fits, length_slot}
use Rattle.ascii.proofs.Digits.{length_hex, length_decimal}
use Rattle.sheet.specs.Kinds.{Name}
use Rattle.sheet.specs.Kinds.name.{Fresh, Power, Command, Send, Push, Down, Consume, Credit, Air, Reply, Up, Report, Read, Bad, Run}
use Rattle.forms.specs.Names.{text_of, is_bad, is_run}
use Rattle.forms.specs.Form.{ev_label, args_of, asks}
use Rattle.sheet.specs.Play.{played}
use Rattle.sheet.specs.Show.{zero_buffer, joined, wire_shown, put_by, put_on, message_text, event_field, answer_field, drop_field, rfu_field, packet_field, message_field, moves_field, line_of}
use Rattle.sheet.specs.Sheet.{Answer, answer_to}
use Rattle.forms.proofs.Naming.{name_short}
use Rattle.sheet.proofs.Showing.{joined_append}

-- ---- refusals

-- a refusal's word says nothing of a message
pub number_handed : (n : ℕ) → n < 256 → handed_in n ≡ false
unfolding handed_in
number_handed n h = ne_eqb (n / handed_bit % 2) 1 (λ e. omega arith)

number_length : (n : ℕ) → n < 256 → length_in n ≤ message_size
unfolding length_in
number_length n h = omega arith

-- ---- packets

cut_short : (n : ℕ) (l : Octets) → length (cut 0 n l) ≤ n
unfolding cut
cut_short n l = simp length-take (omega arith)

-- the message of a word, or none
handed_short : (o : Outcome) → length (joined (handed_by o)) ≤ length_in o.word
unfolding handed_by joined
handed_short o =
    on (λ (ms : List Octets). length (joined ms) ≤ length_in o.word) (handed_in o.word)
    (λ _. omega (arith, length-append (cut 0 (length_in o.word) o.out) [], cut_short (length_in o.word) o.out))
    (λ _. omega arith)

unhanded : (o : Outcome) → handed_in o.word ≡ false → handed_by o ≡ []
unfolding handed_by
unhanded o e = ap (λ (b : Bool). pick b (cut 0 (length_in o.word) o.out ∷ []) []) e

module _ (a out : Octets) (wire back : ℕ) where
  packet_short : length (joined (handed_by (packet_call a out wire back))) ≤ slot_size
  unfolding packet_call joined
  packet_short =
      let p = packet_back (decode_of a) wire back a in
      let small : length p ≤ slot_size = length_slot _ a _ in
      called_by (λ (o : Outcome). length (joined (handed_by o)) ≤ slot_size) (packet_rules (decode_of a) wire back) (shown_packet p a out) a out refl
      (λ _. omega (arith, handed_short (shown_packet p a out), word_length false true (length p) 0 0 (omega arith)))
      (λ n s. omega (arith, ap (λ (ms : List Octets). length (joined ms)) (unhanded (outcome n a out) (number_handed n (below n s)))))

  -- a wire has sixteen packets at most
  packet_none : wire_slots ≤ back → handed_by (packet_call a out wire back) ≡ []
  unfolding packet_call
  packet_none h =
      let r = decode_of a in
      let all = entry_rules a (length out) ++ packet_rules r wire back in
      called_by (λ (o : Outcome). handed_by o ≡ []) (packet_rules r wire back) (shown_packet (packet_back r wire back a) a out) a out refl
      (λ t.
      let long : area_size ≤ length a = ltb-false _ _ (need 2 all t) in
      let judged : judge_of a ≡ true = not-false (judge_of a) (need 1 all t) in
      let some : back < (wire_ring r wire).count = leb-false _ _ (need 8 all t) in
      let most : (wire_ring r wire).count ≤ wire_slots = (wire_fits r wire (sound_area a long judged).fit).count in
      absurd (omega arith))
      (λ n s. unhanded (outcome n a out) (number_handed n (below n s)))

wire_short : (a : Octets) (outs : ℕ → Octets) (wire n : ℕ) → length (joined (last_packets a outs wire n)) ≤ slot_size * min n wire_slots
unfolding last_packets joined
wire_short a outs wire zero = omega arith
wire_short a outs wire (suc n) = go (dec_lt n wire_slots) (wire_short a outs wire n)
  where
    one : Octets
    one = joined (handed_by (packet_call a (outs n) wire n))

    whole : length (joined (last_packets a outs wire (suc n))) ≡ length one + length (joined (last_packets a outs wire n))
    whole =
        ap length (joined_append (handed_by (packet_call a (outs n) wire n)) (last_packets a outs wire n))
        ∙ length-append one (joined (last_packets a outs wire n))

    go : Dec (n < wire_slots) → length (joined (last_packets a outs wire n)) ≤ slot_size * min n wire_slots
        → length (joined (last_packets a outs wire (suc n))) ≤ slot_size * min (suc n) wire_slots
    go (yes h) ih = omega (arith, whole, packet_short a (outs n) wire n)
    go (no h) ih =
        let none : length one ≡ 0 = ap (λ (ms : List Octets). length (joined ms)) (packet_none a (outs n) wire n (omega arith)) in
        omega (arith, whole, none)

-- ---- messages: no word says more than 1,024 octets

abbrev Modest : Outcome → Type 0
Modest o = length_in o.word ≤ message_size

quietly : (d : Bool) (m n : ℕ) → length_in (word_of d false 0 m n) ≤ message_size
quietly d m n = omega (arith, word_length d false 0 m n (omega arith))

-- reserved bits say nothing of a message
telling_modest : (n w : ℕ) → length_in w ≤ message_size → length_in (word_telling n w) ≤ message_size
telling_modest n w h = omega (arith, told_length n w)

read_modest : (x : Reading) → length_in (found_word (found_in x)) ≤ message_size
read_modest (Some (h, n)) = telling_modest _ _ (quietly _ _ _)
read_modest None = telling_modest _ _ (quietly _ _ _)

-- what a call leaves alone
pub kept : (c : Call) (a out : Octets) → Within a out (perform c a out)
kept c a out = nothing_past (record { call = c; out = out }) a

pub play_modest : (x : Name) (m a out : Octets) → Modest (played x m a out)
unfolding found_of
play_modest Fresh m a out = (kept (fresh m) a out).most
play_modest Power m a out = (kept power a out).most
play_modest Command m a out = (kept (command (get_or m 0 0) (get_or m 1 0) (drop 2 m)) a out).most
play_modest Send m a out = (kept (send (get_or m 0 0) (drop 1 m)) a out).most
play_modest Push m a out = (kept (push (get_or m 0 0)) a out).most
play_modest Down m a out = (kept down a out).most
play_modest Consume m a out = (kept (consume (get_or m 0 0)) a out).most
play_modest Credit m a out = (kept credit a out).most
play_modest Air m a out = (kept (air m) a out).most
play_modest Reply m a out = (kept reply a out).most
play_modest Up m a out = (kept up a out).most
play_modest Report m a out = (kept (report (get_or m 0 0)) a out).most
play_modest Read m a out = on (λ (f : Found). length_in (found_word f) ≤ message_size) (ltb slot_size (length m)) (λ _. number_length 3 (omega arith)) (λ _. read_modest (read_of m))
play_modest Bad m a out = number_length 3 (omega arith)
play_modest Run m a out = (run_kept a out).most

-- ---- the line

message_short : (m : Octets) → length m ≤ message_size → length (message_text (m ∷ [])) ≤ 2 * message_size
message_short [] h = omega arith
message_short (x ∷ m) h = omega (arith, length_hex (x ∷ m))

text_short : (o : Outcome) → Modest o → length (message_text (handed_by o)) ≤ 2 * message_size
unfolding handed_by
text_short o h =
    on (λ (ms : List Octets). length (message_text ms) ≤ 2 * message_size) (handed_in o.word)
    (λ _. message_short (cut 0 (length_in o.word) o.out) (omega (arith, cut_short (length_in o.word) o.out)))
    (λ _. omega arith)

wires_short : (o : Outcome) → length (put_by o) ≤ 2 * (slot_size * wire_slots)
wires_short o =
    omega (
      arith,
      length-append (wire_shown 0 (down_in o.word) o.area) (wire_shown 1 (up_in o.word) o.area),
      wire_short o.area zero_buffer 0 (down_in o.word),
      wire_short o.area zero_buffer 1 (up_in o.word),
    )

put_short : (x : Name) (o : Outcome) → length (put_on x o) ≤ 2 * (slot_size * wire_slots)
put_short x o = on (λ (l : Octets). length l ≤ 2 * (slot_size * wire_slots)) (is_run x) (λ _. omega arith) (λ _. wires_short o)

moves_short : (x : Name) (n : ℕ) → length (moves_field x n) ≤ 12
moves_short x n = on (λ (l : Octets). length l ≤ 12) (is_run x) (λ _. omega (arith, length_decimal n)) (λ _. omega arith)

-- each field, and all of them
line_short : (x : Name) (o : Outcome) → Modest o → length (line_of x o) ≤ 18623
line_short x o h =
    let w = o.word in
    let event : length (event_field x) ≤ 10 = omega (arith, length-append ev_label (text_of x), name_short x) in
    let answer : length (answer_field w) ≤ 10 = omega (arith, length_decimal (number_of (answer_in w))) in
    let flag : length (drop_field w) ≤ 11 = omega (arith, length_decimal (bit (dropped_in w))) in
    let bits : length (rfu_field w) ≤ 7 = omega (arith, length_hex (rfu_in w ∷ [])) in
    let packets : length (packet_field x o) ≤ 5 + 4 * (slot_size * wire_slots) = omega (arith, length_hex (put_on x o), put_short x o) in
    let message : length (message_field o) ≤ 5 + 2 * message_size = omega (arith, text_short o h) in
    omega (
      arith,
      length-append (event_field x) (answer_field w),
      length-append (event_field x ++ answer_field w) (drop_field w),
      length-append (event_field x ++ answer_field w ++ drop_field w) (rfu_field w),
      length-append (event_field x ++ answer_field w ++ drop_field w ++ rfu_field w) (packet_field x o),
      length-append (event_field x ++ answer_field w ++ drop_field w ++ rfu_field w ++ packet_field x o) (message_field o),
      length-append (event_field x ++ answer_field w ++ drop_field w ++ rfu_field w ++ packet_field x o ++ message_field o) (moves_field x (moves_in w)),
      moves_short x (moves_in w),
    )

-- what answers any line
pub answer_short : (l a out : Octets) → length (answer_to l a out).line ≤ 18623
unfolding answer_to
answer_short l a out =
    on (λ (x : Answer). length x.line ≤ 18623) (is_bad (asks l))
    (λ _. omega (arith, length_decimal (number_of (answer_in 3))))
    (λ _. line_short (asks l) _ (play_modest (asks l) (args_of l) a out))
