-- A printed line tells its event, answer, drop flag, reserved bits, packets, message and moves: `Heard` of `specs/Told.antt`.
-- Assumes nothing.
use Prim.Native.Nat.{ℕ, zero, suc, ◌+◌, ◌/◌, ◌≤◌, ◌<◌}
use mathlib.Core.Path.{◌≡◌, refl, sym, ap, subst, ◌∙◌}
use mathlib.Core.Bool.{Bool, true, false, ◌&&◌}
use mathlib.Core.List.{List, [], ◌∷◌, ◌++◌, append_assoc, append-nil}
use native.Mathlib.Omega.{arith}
use borrow.Author.Tests.{ltb-true, ne_eqb}
use lib.ListN.{drop, get_or, replicate}
use Rattle.state.proofs.Chains.{on}
use lib.Dec.{ltb, eqb}
use Rattle.octets.specs.Octets.{Octets, pick, cut}
use Rattle.octets.specs.Octal.{Octal, octal_nil, octal_cons}
use Rattle.octets.proofs.Octal.{octal_append, octal_cut, octal_splice}
use Rattle.area.specs.Map.{slot_size, message_size}
use Rattle.area.specs.Ring.{slot_at, slot_in, trim, slot_packet}
use Rattle.record.specs.Layout.{bit}
use Rattle.record.specs.Reading.{decode_of}
use Rattle.calls.specs.Word.{number_of, answer_in, dropped_in, handed_in, length_in, rfu_in, moves_in}
use Rattle.calls.specs.Outcome.{Outcome, outcome}
use Rattle.calls.specs.Packet.{packet_back, packet_rules, shown_packet, packet_call, handed_by, last_packets}
use Rattle.ascii.specs.Letters as letter
use Rattle.ascii.specs.Words.{words}
use Rattle.ascii.specs.Digits.{digit_of, hex_of, octets_in, decimal_of, number_from}
use Rattle.ascii.proofs.Words.{Solid, solid_nil, solid_cons, solid_append, words_next, words_last, both}
use Rattle.ascii.proofs.Digits.{digit_least, hex_solid, octets_hex, decimal_solid, number_decimal}
use Rattle.sheet.specs.Kinds.{Name}
use Rattle.sheet.specs.Kinds.name.{Fresh, Power, Command, Send, Push, Down, Consume, Credit, Air, Reply, Up, Report, Read, Bad, Run}
use Rattle.forms.specs.Names.{text_of, is_run}
use Rattle.forms.specs.Form.{ev_label}
use Rattle.sheet.specs.Show.{moves_label, zero_buffer, joined, wire_shown, put_on, message_text, event_field, answer_field, drop_field, rfu_field, packet_field, message_field, moves_field, line_of}
use Rattle.sheet.specs.Told.{message_in, told_by, to_tell, Real, Heard}
use Rattle.sheet.proofs.Showing.{joined_append, moves_fit}
use Rattle.calls.proofs.Words.{number_answer}
use Rattle.calls.proofs.Kept.{called_by}

-- ---- no word has a blank

-- of a text whose characters are known
unfoldable letters : Octets → Bool
letters [] = true
letters (x ∷ l) = ltb 32 x && letters l

letters_solid : (l : Octets) → letters l ≡ true → Solid l
unfolding letters
letters_solid [] e = solid_nil
letters_solid (x ∷ l) e = let t = both (ltb 32 x) (letters l) e in solid_cons (ltb-true 32 x t.0) (letters_solid l t.1)

name_solid : (x : Name) → Solid (text_of x)
unfolding letters
name_solid Fresh = letters_solid (text_of Fresh) refl
name_solid Power = letters_solid (text_of Power) refl
name_solid Command = letters_solid (text_of Command) refl
name_solid Send = letters_solid (text_of Send) refl
name_solid Push = letters_solid (text_of Push) refl
name_solid Down = letters_solid (text_of Down) refl
name_solid Consume = letters_solid (text_of Consume) refl
name_solid Credit = letters_solid (text_of Credit) refl
name_solid Air = letters_solid (text_of Air) refl
name_solid Reply = letters_solid (text_of Reply) refl
name_solid Up = letters_solid (text_of Up) refl
name_solid Report = letters_solid (text_of Report) refl
name_solid Read = letters_solid (text_of Read) refl
name_solid Bad = letters_solid (text_of Bad) refl
name_solid Run = letters_solid (text_of Run) refl

event_solid : (x : Name) → Solid (event_field x)
unfolding letters
event_solid x = solid_append (letters_solid ev_label refl) (name_solid x)

message_solid : (ms : List Octets) → Solid (message_text ms)
unfolding letters
message_solid [] = solid_nil
message_solid ([] ∷ ms) = letters_solid (letter.dash ∷ []) refl
message_solid ((x ∷ m) ∷ ms) = hex_solid (x ∷ m)

-- ---- six words with a blank between each two, and what follows the sixth

words_line : {a b c d e : Octets} (f t : Octets) {ts : List Octets} → Solid a → Solid b → Solid c → Solid d → Solid e → words (f ++ t) ≡ f ∷ ts
    → words (a ++ (32 ∷ b) ++ (32 ∷ c) ++ (32 ∷ d) ++ (32 ∷ e) ++ (32 ∷ f) ++ t) ≡ a ∷ b ∷ c ∷ d ∷ e ∷ f ∷ ts
words_line {a} {b} {c} {d} {e} f t sa sb sc sd se tail =
    ap words
    (append_assoc (a ++ (32 ∷ b) ++ (32 ∷ c) ++ (32 ∷ d) ++ (32 ∷ e)) (32 ∷ f) t
    ∙ append_assoc (a ++ (32 ∷ b) ++ (32 ∷ c) ++ (32 ∷ d)) (32 ∷ e) ((32 ∷ f) ++ t)
    ∙ append_assoc (a ++ (32 ∷ b) ++ (32 ∷ c)) (32 ∷ d) ((32 ∷ e) ++ ((32 ∷ f) ++ t))
    ∙ append_assoc (a ++ (32 ∷ b)) (32 ∷ c) ((32 ∷ d) ++ ((32 ∷ e) ++ ((32 ∷ f) ++ t)))
    ∙ append_assoc a (32 ∷ b) ((32 ∷ c) ++ ((32 ∷ d) ++ ((32 ∷ e) ++ ((32 ∷ f) ++ t)))))
    ∙ words_next sa (b ++ ((32 ∷ c) ++ ((32 ∷ d) ++ ((32 ∷ e) ++ ((32 ∷ f) ++ t)))))
    ∙ ap (λ (ws : List Octets). a ∷ ws)
    (words_next sb (c ++ ((32 ∷ d) ++ ((32 ∷ e) ++ ((32 ∷ f) ++ t))))
    ∙ ap (λ (ws : List Octets). b ∷ ws)
    (words_next sc (d ++ ((32 ∷ e) ++ ((32 ∷ f) ++ t)))
    ∙ ap (λ (ws : List Octets). c ∷ ws)
    (words_next sd (e ++ ((32 ∷ f) ++ t))
    ∙ ap (λ (ws : List Octets). d ∷ ws)
    (words_next se (f ++ t) ∙ ap (λ (ws : List Octets). e ∷ ws) tail))))

-- a label without its blank
abbrev after : Octets → Octets
after = drop 1

-- ---- numbers

answer_small : (w : ℕ) → number_of (answer_in w) < 100000
answer_small w = omega (arith, number_answer w)

bit_small : (b : Bool) → bit b < 100000
unfolding bit
bit_small true = omega arith
bit_small false = omega arith

bit_again : (b : Bool) → eqb (bit b) 1 ≡ b
unfolding bit
bit_again true = refl
bit_again false = refl

octal_rfu : (w : ℕ) → Octal (rfu_in w ∷ [])
unfolding rfu_in
octal_rfu w = octal_cons {x = rfu_in w} (omega arith) octal_nil

-- ---- octets

octal_zeros : (n : ℕ) → Octal (replicate n 0)
octal_zeros zero = octal_nil
octal_zeros (suc n) = octal_cons {x = 0} (omega arith) (octal_zeros n)

octal_slot : (base : ℕ) {a : Octets} (i : ℕ) → Octal a → Octal (slot_packet base a i)
unfolding slot_packet trim cut
octal_slot base {a} i h = octal_cut 0 (3 + get_or (slot_in base a i) 2 0) (octal_cut (slot_at base i) slot_size h)

octal_handed : (o : Outcome) → Octal o.out → Octal (joined (handed_by o))
unfolding handed_by joined
octal_handed o h =
    on (λ (ms : List Octets). Octal (joined ms)) (handed_in o.word) (λ _. octal_append (octal_cut 0 (length_in o.word) h) octal_nil) (λ _. octal_nil)

octal_one : (a : Octets) (wire back : ℕ) → Octal a → Octal (joined (handed_by (packet_call a (zero_buffer back) wire back)))
unfolding packet_call
octal_one a wire back h =
    let r = decode_of a in
    let p = packet_back r wire back a in
    called_by (λ (o : Outcome). Octal (joined (handed_by o))) (packet_rules r wire back) (shown_packet p a (zero_buffer back)) a (zero_buffer back) refl
    (λ _. octal_handed (shown_packet p a (zero_buffer back)) (octal_splice 0 (octal_zeros message_size) (octal_slot _ _ h)))
    (λ n k. octal_handed (outcome n a (zero_buffer back)) (octal_zeros message_size))

octal_wire : (a : Octets) (wire n : ℕ) → Octal a → Octal (wire_shown wire n a)
unfolding last_packets joined
octal_wire a wire zero h = octal_nil
octal_wire a wire (suc n) h =
    subst Octal (sym (joined_append (handed_by (packet_call a (zero_buffer n) wire n)) (last_packets a zero_buffer wire n)))
    (octal_append (octal_one a wire n h) (octal_wire a wire n h))

octal_put : (x : Name) (o : Outcome) → Octal o.area → Octal (put_on x o)
octal_put x o h = on Octal (is_run x) (λ _. octal_nil) (λ _. octal_append (octal_wire o.area 0 _ h) (octal_wire o.area 1 _ h))

-- ---- the message

message_one : (m : Octets) → Octal m → message_in (message_text (m ∷ [])) ≡ m ∷ []
unfolding hex_of digit_of
message_one [] h = refl
message_one (x ∷ m) h =
    hex_again x m
    ∙ ap (λ (l : Octets). l ∷ []) (octets_hex h)
  where
    first_digit : (c : ℕ) (l : Octets) → 48 ≤ c → message_in (c ∷ l) ≡ octets_in (c ∷ l) ∷ []
    first_digit c l h = ap (λ (b : Bool). pick b ([] ∷ []) (octets_in (c ∷ l) ∷ [])) (ne_eqb c 45 (λ e. omega arith))

    hex_again : (x : ℕ) (m : Octets) → message_in (hex_of (x ∷ m)) ≡ octets_in (hex_of (x ∷ m)) ∷ []
    hex_again x m = first_digit (digit_of (x / 16)) (digit_of x ∷ hex_of m) (digit_least (x / 16))

message_again : (o : Outcome) → Octal o.out → message_in (message_text (handed_by o)) ≡ handed_by o
unfolding handed_by
message_again o h =
    on (λ (ms : List Octets). message_in (message_text ms) ≡ ms) (handed_in o.word)
    (λ _. message_one (cut 0 (length_in o.word) o.out) (octal_cut 0 (length_in o.word) h)) (λ _. refl)

-- ---- the moves of a press

-- the word behind the message, where there is one
abbrev moves_word : Name → ℕ → List Octets
moves_word x n = pick (is_run x) (after (moves_label ++ decimal_of n) ∷ []) []

moves_words : (f : Octets) (x : Name) (n : ℕ) → Solid f → words (f ++ moves_field x n) ≡ f ∷ moves_word x n
unfolding letters
moves_words f x n s = go (is_run x)
  where
    go : (b : Bool) → words (f ++ pick b (moves_label ++ decimal_of n) []) ≡ f ∷ pick b (after (moves_label ++ decimal_of n) ∷ []) []
    go true =
        words_next s (after (moves_label ++ decimal_of n))
        ∙ ap (λ (ws : List Octets). f ∷ ws) (words_last (solid_append (letters_solid (after moves_label) refl) (decimal_solid n)))
    go false = ap words (append-nil f) ∙ words_last s

moves_again : (x : Name) (n : ℕ) → n < 100000 → number_from 0 (drop 6 (get_or (moves_word x n) 0 [])) ≡ pick (is_run x) n 0
unfolding number_from
moves_again x n s = go (is_run x)
  where
    go : (b : Bool) → number_from 0 (drop 6 (get_or (pick b (after (moves_label ++ decimal_of n) ∷ []) []) 0 [])) ≡ pick b n 0
    go true = number_decimal n s
    go false = refl

-- ---- the line

line_words : (x : Name) (o : Outcome)
    → words (line_of x o)
    ≡ event_field x
    ∷ after (answer_field o.word)
    ∷ after (drop_field o.word)
    ∷ after (rfu_field o.word)
    ∷ after (packet_field x o)
    ∷ after (message_field o)
    ∷ moves_word x (moves_in o.word)
unfolding letters
line_words x o =
    words_line (after (message_field o)) (moves_field x (moves_in o.word))
    (event_solid x)
    (solid_append (letters_solid (letter.a ∷ letter.n ∷ letter.s ∷ letter.equals ∷ []) refl) (decimal_solid (number_of (answer_in o.word))))
    (solid_append (letters_solid (letter.d ∷ letter.r ∷ letter.o ∷ letter.p ∷ letter.equals ∷ []) refl) (decimal_solid (bit (dropped_in o.word))))
    (solid_append (letters_solid (letter.r ∷ letter.f ∷ letter.u ∷ letter.equals ∷ []) refl) (hex_solid (rfu_in o.word ∷ [])))
    (solid_append (letters_solid (letter.p ∷ letter.k ∷ letter.t ∷ letter.equals ∷ []) refl) (hex_solid (put_on x o)))
    (moves_words (after (message_field o)) x (moves_in o.word)
    (solid_append (letters_solid (letter.m ∷ letter.s ∷ letter.g ∷ letter.equals ∷ []) refl) (message_solid (handed_by o))))

told_again : (x : Name) (o : Outcome) → Real o → told_by (line_of x o) ≡ to_tell x o
told_again x o real =
    let w = o.word in
    let ws = line_words x o in
    λ i.
    record {
      event = drop 3 (get_or (ws i) 0 []);
      answer = (ap (λ (l : List Octets). number_from 0 (drop 4 (get_or l 1 []))) ws ∙ number_decimal _ (answer_small w)) i;
      dropped =
          (ap (λ (l : List Octets). eqb (number_from 0 (drop 5 (get_or l 2 []))) 1) ws
          ∙ ap (λ (n : ℕ). eqb n 1) (number_decimal (bit (dropped_in w)) (bit_small (dropped_in w)))
          ∙ bit_again (dropped_in w)) i;
      rfu =
          (ap (λ (l : List Octets). get_or (octets_in (drop 4 (get_or l 3 []))) 0 0) ws ∙ ap (λ (l : Octets). get_or l 0 0) (octets_hex (octal_rfu w))) i;
      packets = (ap (λ (l : List Octets). octets_in (drop 4 (get_or l 4 []))) ws ∙ octets_hex (octal_put x o real.area)) i;
      message = (ap (λ (l : List Octets). message_in (drop 4 (get_or l 5 []))) ws ∙ message_again o real.out) i;
      moves = (ap (λ (l : List Octets). number_from 0 (drop 6 (get_or l 6 []))) ws ∙ moves_again x (moves_in w) (omega (arith, moves_fit w))) i;
    }

pub heard : Heard
heard =
    record {
      again = told_again;
      apart = λ x y o p r q e. sym (told_again x o r) ∙ ap told_by e ∙ told_again y p q;
    }
