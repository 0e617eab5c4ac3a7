-- What a word says of a call that is taken is what it was made of.
-- Assumes nothing.
use Prim.Native.Nat.{ℕ, zero, suc, ◌+◌, ◌*◌, ◌/◌, ◌%◌, ◌≤◌, ◌<◌}
use native.Mathlib.Omega.{arith}
use mathlib.Core.Path.{◌≡◌, refl, sym, ap, ◌∙◌}
use mathlib.Core.Bool.{Bool, true, false}
use borrow.Author.Tests.{eqb-true}
use lib.Dec.{eqb}
use mathlib.Core.List.{[], ◌∷◌}
use Rattle.octets.specs.Octets.{Octets, pick, cut}
use Rattle.area.specs.Map.{down_at, up_at, wire_slots}
use Rattle.area.specs.Ring.{packets_from}
use Rattle.record.specs.Layout.{bit}
use Rattle.model.specs.Effects.{Call, taken, refused}
use Rattle.calls.specs.Word.{drop_bit, handed_bit, rfu_unit, word_of, number_of, answer_in, dropped_in, handed_in, length_in, down_in, up_in, rfu_in, word_telling}
use Rattle.calls.specs.Outcome.{Outcome, outcome, tells}
use Rattle.calls.specs.Seen.{Puts, no_puts, starts, restarts, puts_after, seen_by}

pub bit_least : (b : Bool) → bit b ≤ 1
unfolding bit
bit_least true = omega arith
bit_least false = omega arith

bit_back : (b : Bool) → eqb (bit b) 1 ≡ b
unfolding bit
bit_back true = refl
bit_back false = refl

-- a number of one bit, and the test of it
pub bit_test : (n : ℕ) → n < 2 → bit (eqb n 1) ≡ n
unfolding bit
bit_test zero h = refl
bit_test (suc zero) h = refl
bit_test (suc (suc n)) h = absurd (omega arith)

-- the answer's number is the word's low octet
pub number_answer : (w : ℕ) → number_of (answer_in w) ≡ w % 256
unfolding answer_in
number_answer w = go (eqb (w % 256) 0) refl
  where
    go : (b : Bool) → eqb (w % 256) 0 ≡ b → number_of (pick b taken (refused (w % 256))) ≡ w % 256
    go true e = sym (eqb-true (w % 256) 0 e)
    go false e = refl

module _ (d h : Bool) (len down up : ℕ) where
  abbrev word : ℕ
  word = word_of d h len down up

  pub word_answer : answer_in word ≡ taken
  unfolding answer_in word_of
  word_answer = let e : word_of d h len down up % 256 ≡ 0 = omega arith in ap (λ (n : ℕ). pick (eqb n 0) taken (refused n)) e

  pub word_dropped : dropped_in word ≡ d
  unfolding dropped_in word_of
  word_dropped = let e : word_of d h len down up / drop_bit % 2 ≡ bit d = omega (arith, bit_least d) in ap (λ (n : ℕ). eqb n 1) e ∙ bit_back d

  pub word_handed : handed_in word ≡ h
  unfolding handed_in word_of
  word_handed =
      let e : word_of d h len down up / handed_bit % 2 ≡ bit h = omega (arith, bit_least d, bit_least h) in
      ap (λ (n : ℕ). eqb n 1) e ∙ bit_back h

  module _ (l : len < 65536) where
    pub word_length : length_in word ≡ len
    unfolding length_in word_of
    word_length = omega (arith, bit_least d, bit_least h, l)

    module _ (m : down < 256) where
      pub word_down : down_in word ≡ down
      unfolding down_in word_of
      word_down = omega (arith, bit_least d, bit_least h, l, m)

      pub word_up : up < 256 → up_in word ≡ up
      unfolding up_in word_of
      word_up n = omega (arith, bit_least d, bit_least h, l, m, n)

      pub word_rfu : up < 256 → rfu_in word ≡ 0
      unfolding rfu_in word_of
      word_rfu n = omega (arith, bit_least d, bit_least h, l, m, n)

      -- what is seen of a call that answers it, and the packets put after it
      module _ (n : up < 256) (c : Call) (q : Puts) where
        pub word_seen : (area out : Octets)
            → seen_by c q (outcome word area out)
            ≡ record {
              call = c;
              answer = taken;
              dropped = d;
              rfu = 0;
              to_down = packets_from down_at wire_slots area q.down down;
              to_up = packets_from up_at wire_slots area q.up up;
              message = pick h (cut 0 len out ∷ []) [];
            }
        word_seen area out i =
            record {
              call = c;
              answer = word_answer i;
              dropped = word_dropped i;
              rfu = word_rfu n i;
              to_down = packets_from down_at wire_slots area q.down (word_down i);
              to_up = packets_from up_at wire_slots area q.up (word_up n i);
              message = pick (word_handed i) (cut 0 (word_length i) out ∷ []) [];
            }

        pub word_puts : starts c ≡ false → puts_after c q word ≡ record { down = q.down + down; up = q.up + up }
        word_puts s =
            (λ i. pick (restarts c (word_answer i)) no_puts (record { down = q.down + word_down i; up = q.up + word_up n i }))
            ∙ (λ i. pick (s i) no_puts (record { down = q.down + down; up = q.up + up }))

-- ---- a word that tells reserved bits says all else as before

module _ (n w : ℕ) where
  abbrev told : ℕ
  told = word_telling n w

  pub told_answer : answer_in told ≡ answer_in w
  unfolding answer_in word_telling
  told_answer = let e : word_telling n w % 256 ≡ w % 256 = omega arith in ap (λ (k : ℕ). pick (eqb k 0) taken (refused k)) e

  pub told_dropped : dropped_in told ≡ dropped_in w
  unfolding dropped_in word_telling
  told_dropped = let e : word_telling n w / drop_bit % 2 ≡ w / drop_bit % 2 = omega arith in ap (λ (k : ℕ). eqb k 1) e

  pub told_handed : handed_in told ≡ handed_in w
  unfolding handed_in word_telling
  told_handed = let e : word_telling n w / handed_bit % 2 ≡ w / handed_bit % 2 = omega arith in ap (λ (k : ℕ). eqb k 1) e

  pub told_length : length_in told ≡ length_in w
  unfolding length_in word_telling
  told_length = omega arith

  pub told_down : down_in told ≡ down_in w
  unfolding down_in word_telling
  told_down = omega arith

  pub told_up : up_in told ≡ up_in w
  unfolding up_in word_telling
  told_up = omega arith

  -- and of them it tells these, or none with the drop flag up
  pub told_rfu : n < 256 → rfu_in told ≡ pick (dropped_in w) 0 n
  unfolding rfu_in word_telling
  told_rfu h = go (dropped_in w)
    where
      go : (b : Bool) → (w % rfu_unit + pick b 0 n * rfu_unit) / rfu_unit % 256 ≡ pick b 0 n
      go true = omega arith
      go false = omega (arith, h)

-- of a packet that is dropped it tells none
pub told_none : (n : ℕ) → word_telling n (word_of true false 0 0 0) ≡ word_of true false 0 0 0
unfolding word_telling word_of bit dropped_in
told_none n = refl

-- what a call comes to whose word tells them after all else is done
pub tells_by : (n : ℕ) {w x : ℕ} {a out : Octets} {o : Outcome} → x ≡ word_telling n w → outcome w a out ≡ o → outcome x a out ≡ tells n o
tells_by n {w} {x} {a} {out} e p = (λ i. outcome (e i) a out) ∙ ap (tells n) p
