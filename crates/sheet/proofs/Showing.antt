-- The laws of `specs/Show.antt`.
-- Assumes nothing.
use Prim.Native.Nat.{ℕ, suc, ◌<◌}
use mathlib.Core.Path.{◌≡◌, refl, sym, ap, ◌∙◌}
use mathlib.Core.Bool.{Bool, true, false}
use mathlib.Core.List.{List, [], ◌∷◌, ◌++◌, append_assoc, append-nil}
use native.Mathlib.Omega.{arith}
use lib.ListN.{length}
use Rattle.octets.specs.Octets.{Octets, pick, cut}
use Rattle.calls.specs.Word.{handed_in, length_in, moves_in}
use Rattle.calls.specs.Outcome.{Outcome, outcome}
use Rattle.calls.specs.Packet.{packet_call, handed_by, last_packets}
use Rattle.ascii.specs.Digits.{hex_of, decimal_of}
use Rattle.ascii.proofs.Digits.{hex_append}
use Rattle.sheet.specs.Kinds.{Name}
use Rattle.forms.specs.Names.{is_run}
use Rattle.sheet.specs.Show.{pkt_label, moves_label, zero_buffer, joined, wire_shown, put_by, message_text, packet_field, moves_field}

-- ---- joined

pub joined_append : (ps qs : List Octets) → joined (ps ++ qs) ≡ joined ps ++ joined qs
unfolding joined
joined_append [] qs = refl
joined_append (p ∷ ps) qs = ap (λ (l : Octets). p ++ l) (joined_append ps qs) ∙ sym (append_assoc p (joined ps) (joined qs))

-- ---- a wire

-- the first of the last packets, and the others
pub wire_more : (wire n : ℕ) (a : Octets)
    → hex_of (joined (handed_by (packet_call a (zero_buffer n) wire n))) ++ hex_of (wire_shown wire n a) ≡ hex_of (wire_shown wire (suc n) a)
unfolding last_packets
wire_more wire n a =
    let first = handed_by (packet_call a (zero_buffer n) wire n) in
    sym (hex_append (joined first) (wire_shown wire n a)) ∙ ap hex_of (sym (joined_append first (last_packets a zero_buffer wire n)))

pub wire_none : (wire : ℕ) (a : Octets) → [] ≡ hex_of (wire_shown wire 0 a)
unfolding hex_of joined last_packets
wire_none wire a = refl

-- ---- the fields of a press, and of any other event

module _ (x : Name) where
  pub press_packets : (o : Outcome) → is_run x ≡ true → pkt_label ≡ packet_field x o
  unfolding hex_of
  press_packets o e = sym (ap (λ (b : Bool). pkt_label ++ hex_of (pick b [] (put_by o))) e)

  pub call_packets : (o : Outcome) → is_run x ≡ false → pkt_label ++ hex_of (put_by o) ≡ packet_field x o
  call_packets o e = sym (ap (λ (b : Bool). pkt_label ++ hex_of (pick b [] (put_by o))) e)

  pub press_moves : (n : ℕ) → is_run x ≡ true → moves_label ++ decimal_of n ≡ moves_field x n
  press_moves n e = sym (ap (λ (b : Bool). pick b (moves_label ++ decimal_of n) []) e)

  pub call_moves : (n : ℕ) → is_run x ≡ false → [] ≡ moves_field x n
  call_moves n e = sym (ap (λ (b : Bool). pick b (moves_label ++ decimal_of n) []) e)

pub moves_fit : (w : ℕ) → moves_in w < 65536
unfolding moves_in
moves_fit w = omega arith

-- ---- the message of a word

module _ (w : ℕ) (a out : Octets) where
  module _ (h : handed_in w ≡ true) where
    one : handed_by (outcome w a out) ≡ cut 0 (length_in w) out ∷ []
    unfolding handed_by
    one = ap (λ (b : Bool). pick b (cut 0 (length_in w) out ∷ []) []) h

    pub joined_one : cut 0 (length_in w) out ≡ joined (handed_by (outcome w a out))
    unfolding joined
    joined_one = sym (ap joined one ∙ append-nil (cut 0 (length_in w) out))

    pub message_empty : length (cut 0 (length_in w) out) ≡ 0 → message_text (handed_by (outcome w a out)) ≡ 45 ∷ []
    message_empty e = ap message_text one ∙ go (cut 0 (length_in w) out) e
      where
        go : (m : Octets) → length m ≡ 0 → message_text (m ∷ []) ≡ 45 ∷ []
        go [] e = refl
        go (x ∷ m) e = absurd (omega arith)

    pub message_some : (length (cut 0 (length_in w) out) ≡ 0 → ⊥) → message_text (handed_by (outcome w a out)) ≡ hex_of (cut 0 (length_in w) out)
    message_some n = ap message_text one ∙ go (cut 0 (length_in w) out) n
      where
        go : (m : Octets) → (length m ≡ 0 → ⊥) → message_text (m ∷ []) ≡ hex_of m
        go [] n = absurd (n refl)
        go (x ∷ m) n = refl

  module _ (h : handed_in w ≡ false) where
    none : handed_by (outcome w a out) ≡ []
    unfolding handed_by
    none = ap (λ (b : Bool). pick b (cut 0 (length_in w) out ∷ []) []) h

    pub joined_none : [] ≡ joined (handed_by (outcome w a out))
    unfolding joined
    joined_none = sym (ap joined none)

    pub message_none : message_text (handed_by (outcome w a out)) ≡ []
    message_none = ap message_text none
