-- Run to rest on octets, by what its definitions say: no call is taken where none is entered; on an area that is entered the first taken is the model's move;
-- what a press comes to with one move more; and a press ends by itself on every area of octets.
-- Assumes nothing.
use Prim.Native.Nat.{ℕ, zero, suc, ◌+◌, ◌≤◌, ◌<◌}
use native.Mathlib.Omega.{arith}
use mathlib.Core.Path.{◌≡◌, refl, sym, ap, ◌∙◌, subst}
use mathlib.Core.Bool.{Bool, true, false}
use mathlib.Core.List.{List, [], ◌∷◌}
use lib.ListN.{length}
use Rattle.octets.specs.Octets.{Octets, pick}
use Rattle.octets.specs.Octal.{Octal}
use Rattle.state.proofs.Chains.{on}
use Rattle.area.specs.Map.{area_size, message_size}
use Rattle.record.specs.Reading.{decode_of}
use Rattle.record.specs.Judge.{judge_of}
use Rattle.record.proofs.Fits.{judged_granted}
use Rattle.views.specs.View.{view_of}
use Rattle.views.proofs.Credits.{granted_view}
use Rattle.model.specs.Effects.{Call, Result, taken, refused, is_taken}
use Rattle.model.specs.Refusals.{first}
use Rattle.model.specs.Bench.{rules, act}
use Rattle.model.specs.Grants.{WithinGrants}
use Rattle.model.specs.Press.{moves, possible, Move, rests, plays, first_of, move, most}
use Rattle.model.proofs.Falling.{IsMove}
use Rattle.model.proofs.Press.{Every, is_move, most_falls, step_next}
use Rattle.calls.specs.Word.{word_of, answer_in, handed_in, length_in, rfu_in, moves_in}
use Rattle.calls.specs.Outcome.{Outcome, outcome, decided, entry_rules, lowest}
use Rattle.calls.specs.Refines.{Good, Refines}
use Rattle.calls.specs.Demand.{perform}
use Rattle.calls.specs.Run.{takes, first_taken, move_on, moves_by, moves_within, moves_most, moves_on, Ran, unmoved, moved, all_moved, run_word, ran, run_call, moves_few, AlwaysEnds}
use Rattle.calls.proofs.Rules.{small, refused_small, first_refused}
use Rattle.calls.proofs.Called.{Entered, entered, enters, called_unentered, called_own}
use Rattle.calls.proofs.Words.{bit_least}
use Rattle.calls.proofs.Refine.{refusal_answer, refined_good, ring_puts, ring_along}
use Rattle.calls.proofs.Kept.{below}
use Rattle.calls.proofs.Demand.{all_refine}
use Rattle.calls.proofs.Few.{good_few}
use Rattle.calls.proofs.Moves.{AsCalled, as_called, octal_of}

-- ---- the moves

pub all_moves : Every IsMove moves
all_moves = (tt, (tt, (tt, (tt, (tt, (tt, (tt, (tt, (tt, (tt, (tt, (tt, (tt, (tt, tt))))))))))))))

-- ---- where no call is entered there is no move

module _ (a out : Octets) (n : ℕ) (e : n ≡ lowest (entry_rules a (length out))) (ne : n ≡ 0 → ⊥) where
  shut_takes : (c : Call) → IsMove c → takes c a out ≡ false
  shut_takes c v =
      let k = as_called c a out v in
      let s : small n ≡ true = refused_small (entry_rules a (length out)) n refl (first_refused (entry_rules a (length out)) n e ne) in
      let same : outcome n a out ≡ perform c a out = called_unentered (rules c (view_of a)) k.does a out n e ne ∙ k.same in
      ap is_taken (ap (λ (o : Outcome). answer_in o.word) (sym same) ∙ refusal_answer n s)

  shut_first : (cs : List Call) → Every IsMove cs → first_taken cs a out ≡ rests
  unfolding first_taken
  shut_first [] v = refl
  shut_first (c ∷ cs) v = rw (shut_takes c v.0) (shut_first cs v.1)

  pub move_shut : move_on a out ≡ rests
  move_shut = shut_first moves all_moves

-- ---- on an area that is entered it is the model's, whatever octets it has

module _ (a out : Octets) (long : area_size ≤ length a) (j : judge_of a ≡ true) (room : message_size ≤ length out) where
  pub same_takes : (c : Call) → IsMove c → takes c a out ≡ possible c (view_of a)
  same_takes c v = go (first (rules c (view_of a))) refl
    where
      k : AsCalled c a out
      k = as_called c a out v

      go : (r : Result) → first (rules c (view_of a)) ≡ r → takes c a out ≡ is_taken r
      go r e = by r e (called_own (rules c (view_of a)) k.does a out r (enters a (length out) long j room) e ∙ k.same)
        where
          by : (r : Result) → first (rules c (view_of a)) ≡ r → decided r k.does a out ≡ perform c a out → takes c a out ≡ is_taken r
          by taken e same = ap is_taken (ap (λ (o : Outcome). answer_in o.word) (sym same) ∙ k.answers)
          by (refused n) e same =
              ap is_taken (ap (λ (o : Outcome). answer_in o.word) (sym same) ∙ refusal_answer n (refused_small (rules c (view_of a)) n k.numbers e))

  same_first : (cs : List Call) → Every IsMove cs → first_taken cs a out ≡ first_of cs (view_of a)
  unfolding first_taken first_of
  same_first [] v = refl
  same_first (c ∷ cs) v = λ i. pick (same_takes c v.0 i) (plays c) (same_first cs v.1 i)

  pub move_entered : move_on a out ≡ first_of moves (view_of a)
  move_entered = same_first moves all_moves

-- ---- what a press comes to that is cut off after one move more, by the move

module _ (k : ℕ) (a out : Octets) (r : Ran) where
  pub ran_rests : move_on a out ≡ rests → all_moved (moves_within (suc k) a out) r ≡ r
  unfolding moves_within all_moved
  ran_rests e = ap (λ (m : Move). all_moved (moves_by (moves_within k) m a out) r) e

  module _ (c : Call) (e : move_on a out ≡ plays c) where
    ran_plays : (b : Bool) → handed_in (perform c a out).word ≡ b
        → all_moved (moves_within (suc k) a out) r ≡ all_moved (c ∷ pick b [] (moves_within k (perform c a out).area (perform c a out).out)) r
    unfolding moves_within
    ran_plays b h =
        ap (λ (m : Move). all_moved (moves_by (moves_within k) m a out) r) e
        ∙ ap (λ (x : Bool). all_moved (c ∷ pick x [] (moves_within k (perform c a out).area (perform c a out).out)) r) h

    -- it ends with a message that is handed out
    pub ran_hands : handed_in (perform c a out).word ≡ true → all_moved (moves_within (suc k) a out) r ≡ moved c r
    unfolding all_moved
    ran_hands h = ran_plays true h

    pub ran_goes : handed_in (perform c a out).word ≡ false
        → all_moved (moves_within (suc k) a out) r ≡ all_moved (moves_within k (perform c a out).area (perform c a out).out) (moved c r)
    unfolding all_moved
    ran_goes h = ran_plays false h

-- cut off here
pub ran_cut : (a out : Octets) (r : Ran) → all_moved (moves_within zero a out) r ≡ r
unfolding moves_within all_moved
ran_cut a out r = refl

-- ---- an area is entered, or no call is

pub data Entry (a out : Octets) : Type 0 where
  open_to : Entered a (length out) → Entry a out
  shut_for : (n : ℕ) → n ≡ lowest (entry_rules a (length out)) → (n ≡ 0 → ⊥) → Entry a out

pub entry : (a out : Octets) → Entry a out
entry a out = go (lowest (entry_rules a (length out))) refl
  where
    go : (n : ℕ) → lowest (entry_rules a (length out)) ≡ n → Entry a out
    go zero e = open_to (entered a (length out) (sym e))
    go (suc n) e = shut_for (suc n) (sym e) (λ z. omega arith)

module _ (a out : Octets) where
  pub run_shut : (n : ℕ) → n ≡ lowest (entry_rules a (length out)) → (n ≡ 0 → ⊥) → outcome n a out ≡ run_call a out
  unfolding run_call
  run_shut n e ne = called_unentered [] (ran a out) a out n e ne

  pub run_entered : Entered a (length out) → ran a out ≡ run_call a out
  unfolding run_call first
  run_entered s = called_own [] (ran a out) a out taken (enters a (length out) s.long s.judged s.room) refl

  -- a press without a move
  none_within : (n : ℕ) → move_on a out ≡ rests → moves_within n a out ≡ []
  unfolding moves_within
  none_within zero e = refl
  none_within (suc n) e = ap (λ (m : Move). moves_by (moves_within n) m a out) e

  pub none_moved : move_on a out ≡ rests → moves_on a out ≡ []
  unfolding moves_on
  none_moved e = none_within moves_most e

-- ---- a move of an area of octets

-- if row 1 lets its record pass, it is of octets: a move leaves no other area
abbrev pub Fair : Octets → Type 0
Fair a = area_size ≤ length a → judge_of a ≡ true → Good a

module _ (a out : Octets) (c : Call) (e : move_on a out ≡ plays c) where
  pub moves_entered : Entered a (length out)
  moves_entered = go (entry a out)
    where
      go : Entry a out → Entered a (length out)
      go (open_to s) = s
      go (shut_for n x ne) = let f : plays c ≡ rests = sym e ∙ move_shut a out n x ne in let z : ◌≡◌ {A = ℕ} 0 1 = cc in absurd (omega arith)

  pub moves_model : move (view_of a) ≡ plays c
  moves_model = let s = moves_entered in sym (move_entered a out s.long s.judged s.room) ∙ e

  module _ (f : Fair a) where
    pub moves_refines : Refines c (ring_puts a) a (perform c a out)
    moves_refines =
        let s = moves_entered in
        all_refine c (ring_puts a) a out (octal_of c (is_move c (view_of a) moves_model).0) (f s.long s.judged) s.room (ring_along a)

    pub moves_next : view_of (perform c a out).area ≡ (act c (view_of a)).next
    moves_next = moves_refines.next ∙ step_next c (view_of a) moves_model

    moves_fall : most (view_of (perform c a out).area) < most (view_of a)
    moves_fall = omega (arith, ap most moves_next, most_falls c (view_of a) moves_model)

    -- a record that row 1 lets pass has its credits within the grants
    moves_fair : Fair (perform c a out).area
    moves_fair long j =
        let s = moves_entered in
        let b : Octets = (perform c a out).area in
        refined_good c (ring_puts a) a (perform c a out) (f s.long s.judged) moves_refines
        (subst WithinGrants moves_refines.next (granted_view b (decode_of b) (judged_granted b j)))

-- ---- a press ends by itself

same_limit : (n m : ℕ) (a out : Octets) → Fair a → most (view_of a) ≤ n → most (view_of a) ≤ m → moves_within n a out ≡ moves_within m a out
unfolding moves_within
same_limit zero zero a out f p q = refl
same_limit zero (suc m) a out f p q = go (move_on a out) refl
  where
    go : (v : Move) → move_on a out ≡ v → [] ≡ moves_by (moves_within m) v a out
    go rests e = refl
    go (plays c) e = absurd (omega (arith, moves_fall a out c e f))
same_limit (suc n) zero a out f p q = go (move_on a out) refl
  where
    go : (v : Move) → move_on a out ≡ v → moves_by (moves_within n) v a out ≡ []
    go rests e = refl
    go (plays c) e = absurd (omega (arith, moves_fall a out c e f))
same_limit (suc n) (suc m) a out f p q = go (λ b o x y z. same_limit n m b o x y z) (move_on a out) refl
  where
    go : ((b o : Octets) → Fair b → most (view_of b) ≤ n → most (view_of b) ≤ m → moves_within n b o ≡ moves_within m b o)
        → (v : Move) → move_on a out ≡ v → moves_by (moves_within n) v a out ≡ moves_by (moves_within m) v a out
    go ih rests e = refl
    go ih (plays c) e =
        ap (λ (cs : List Call). c ∷ pick (handed_in (perform c a out).word) [] cs)
        (ih (perform c a out).area (perform c a out).out (moves_fair a out c e f) (omega (arith, moves_fall a out c e f)) (omega (arith, moves_fall a out c e f)))

within_most : (n : ℕ) (a out : Octets) → Fair a → length (moves_within n a out) ≤ most (view_of a)
unfolding moves_within
within_most zero a out f = omega arith
within_most (suc n) a out f = go (within_most n) (move_on a out) refl
  where
    go : ((b o : Octets) → Fair b → length (moves_within n b o) ≤ most (view_of b)) → (v : Move) → move_on a out ≡ v
        → length (moves_by (moves_within n) v a out) ≤ most (view_of a)
    go ih rests e = omega arith
    go ih (plays c) e =
        let falls = moves_fall a out c e f in
        let later = ih (perform c a out).area (perform c a out).out (moves_fair a out c e f) in
        on (λ (cs : List Call). length (c ∷ cs) ≤ most (view_of a)) (handed_in (perform c a out).word) (λ _. omega arith) (λ _. omega arith)

-- ---- its word

pub made_all : (cs : List Call) (r : Ran) → (all_moved cs r).made ≡ r.made + length cs
unfolding all_moved
made_all [] r = omega arith
made_all (c ∷ cs) r = omega (arith, made_all cs (moved c r))

pub length_short : (w : ℕ) → length_in w < 65536
unfolding length_in
length_short w = omega arith

pub word_moves : (r : Ran) → r.made < 65536 → moves_in (run_word r) ≡ r.made
unfolding moves_in word_of
word_moves r m = omega (arith, bit_least r.dropped, bit_least (handed_in r.last.word), length_short r.last.word)

pub word_clear : (r : Ran) → r.made < 65536 → rfu_in (run_word r) ≡ 0
unfolding rfu_in word_of
word_clear r m = omega (arith, bit_least r.dropped, bit_least (handed_in r.last.word), length_short r.last.word)

-- ---- so for every area of octets

module _ (a out : Octets) (v : Octal a) where
  octal_fair : Fair a
  octal_fair long j = record { long = long; judged = j; octal = v }

  pub moves_few_law : length (moves_on a out) ≤ moves_few
  unfolding moves_on
  moves_few_law = go (entry a out)
    where
      go : Entry a out → length (moves_within moves_most a out) ≤ moves_few
      go (open_to s) = omega (arith, within_most moves_most a out octal_fair, good_few a s.long s.judged)
      go (shut_for n x ne) = omega (arith, ap length (none_within a out moves_most (move_shut a out n x ne)))

  counts : moves_in (run_call a out).word ≡ length (moves_on a out)
  unfolding moves_in
  counts = go (entry a out)
    where
      go : Entry a out → moves_in (run_call a out).word ≡ length (moves_on a out)
      go (open_to s) =
          let made = made_all (moves_on a out) (unmoved a out) in
          ap (λ (o : Outcome). moves_in o.word) (sym (run_entered a out s)) ∙ word_moves (all_moved (moves_on a out) (unmoved a out)) (omega (arith, made, moves_few_law))
          ∙ omega (arith, made)
      go (shut_for n x ne) =
          let small = refused_small (entry_rules a (length out)) n refl (first_refused (entry_rules a (length out)) n x ne) in
          let none : moves_in n ≡ 0 = omega (arith, below n small) in
          ap (λ (o : Outcome). moves_in o.word) (sym (run_shut a out n x ne)) ∙ none ∙ sym (ap length (none_moved a out (move_shut a out n x ne)))

pub always_ends : AlwaysEnds
unfolding moves_on
always_ends a out v =
    record {
      unlimited = λ n h. by n h (entry a out);
      few = moves_few_law a out v;
      counted = counts a out v;
    }
  where
    by : (n : ℕ) → most (view_of a) ≤ n → Entry a out → moves_within n a out ≡ moves_within moves_most a out
    by n h (open_to s) = same_limit n moves_most a out (octal_fair a out v) h (omega (arith, good_few a s.long s.judged))
    by n h (shut_for m x ne) = none_within a out n (move_shut a out m x ne) ∙ sym (none_within a out moves_most (move_shut a out m x ne))
